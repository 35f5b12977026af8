pub mod DeliveredMessage

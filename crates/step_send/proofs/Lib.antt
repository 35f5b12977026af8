pub mod SentTokens

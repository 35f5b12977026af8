-- Document 01, "Step records": the table of fields, and the seven kinds of step with their fields. The reader and the writer both go by it.
use Rattle.std.specs.Prelude.{ℕ, List, [], ◌∷◌, Bool, cond, get_or, eqb, ltb}
use Rattle.spec_base.specs.Folds.{toℕ, all}
use Rattle.spec_wire.specs.declared.Field.{Field}
use Rattle.spec_wire.specs.declared.Step.{Step}
use Rattle.spec_wire.specs.declared.Step.TheVariants.{Load, Store, Send, Deliver, Raise, Lower, Forward}

-- The kind bytes.
abbrev pub load_kind : ℕ
load_kind = 0x10

abbrev pub store_kind : ℕ
store_kind = 0x11

abbrev pub send_kind : ℕ
send_kind = 0x12

abbrev pub deliver_kind : ℕ
deliver_kind = 0x13

abbrev pub raise_kind : ℕ
raise_kind = 0x14

abbrev pub lower_kind : ℕ
lower_kind = 0x15

abbrev pub forward_kind : ℕ
forward_kind = 0x16

-- The fields: the tag, the width of the value in bytes, and what the value stays below.
abbrev pub component : Field
component = record { tag = 0x01; width = 1; limit = 256 }

abbrev pub block : Field
block = record { tag = 0x02; width = 1; limit = 256 }

abbrev pub word : Field
word = record { tag = 0x03; width = 1; limit = 256 }

abbrev pub value : Field
value = record { tag = 0x04; width = 4; limit = 0x1_0000_0000 }

abbrev pub target : Field
target = record { tag = 0x05; width = 1; limit = 256 }

abbrev pub plain : Field
plain = record { tag = 0x06; width = 1; limit = 256 }

abbrev pub owner : Field
owner = record { tag = 0x07; width = 1; limit = 2 }

abbrev pub «data» : Field
«data» = record { tag = 0x08; width = 1; limit = 2 }

abbrev pub position : Field
position = record { tag = 0x09; width = 1; limit = 256 }

abbrev pub all_fields : List Field
all_fields = component ∷ block ∷ word ∷ value ∷ target ∷ plain ∷ owner ∷ «data» ∷ position ∷ []

-- a field that no value fits
abbrev pub no_field : Field
no_field = record { tag = 0; width = 1; limit = 0 }

-- the field with this tag
abbrev pub field_tagged : ℕ → List Field → Field
field_tagged t [] = no_field
field_tagged t (f ∷ fs) = cond (eqb t f.tag) f (field_tagged t fs)

unfoldable pub field_of : ℕ → Field
field_of t = field_tagged t all_fields

-- A step as an array of twelve numbers: the kind byte at index 0, the value of the field with tag t at index t, 0 if the kind has no such field.
-- Yes is 1 and no is 0.
unfoldable pub field_array : Step → List ℕ
field_array (Load c b w) = load_kind ∷ c ∷ b ∷ w ∷ 0 ∷ 0 ∷ 0 ∷ 0 ∷ 0 ∷ 0 ∷ 0 ∷ 0 ∷ []
field_array (Store c b w v) = store_kind ∷ c ∷ b ∷ w ∷ v ∷ 0 ∷ 0 ∷ 0 ∷ 0 ∷ 0 ∷ 0 ∷ 0 ∷ []
field_array (Send c b t p o d) = send_kind ∷ c ∷ b ∷ 0 ∷ 0 ∷ t ∷ p ∷ toℕ o ∷ toℕ d ∷ 0 ∷ 0 ∷ 0 ∷ []
field_array (Deliver i) = deliver_kind ∷ 0 ∷ 0 ∷ 0 ∷ 0 ∷ 0 ∷ 0 ∷ 0 ∷ 0 ∷ i ∷ 0 ∷ 0 ∷ []
field_array (Raise c b) = raise_kind ∷ c ∷ b ∷ 0 ∷ 0 ∷ 0 ∷ 0 ∷ 0 ∷ 0 ∷ 0 ∷ 0 ∷ 0 ∷ []
field_array (Lower c b) = lower_kind ∷ c ∷ b ∷ 0 ∷ 0 ∷ 0 ∷ 0 ∷ 0 ∷ 0 ∷ 0 ∷ 0 ∷ 0 ∷ []
field_array (Forward c b) = forward_kind ∷ c ∷ b ∷ 0 ∷ 0 ∷ 0 ∷ 0 ∷ 0 ∷ 0 ∷ 0 ∷ 0 ∷ 0 ∷ []

-- the kind byte among the numbers, and the value of a field
abbrev pub kind_in : List ℕ → ℕ
kind_in p = get_or p 0 0

abbrev pub value_of : Field → List ℕ → ℕ
value_of f p = get_or p f.tag 0

-- A kind: its kind byte, its fields in rising order of their tags, and the step that an array encodes.
pub record Kind : Type 0 where
  pub code : ℕ
  pub fields : List Field
  pub step : List ℕ → Step

abbrev pub kinds : List Kind
kinds =
    record {
      code = load_kind;
      fields = component ∷ block ∷ word ∷ [];
      step = λ p. Load (value_of component p) (value_of block p) (value_of word p);
    }
    ∷ record {
      code = store_kind;
      fields = component ∷ block ∷ word ∷ value ∷ [];
      step = λ p. Store (value_of component p) (value_of block p) (value_of word p) (value_of value p);
    }
    ∷ record {
      code = send_kind;
      fields = component ∷ block ∷ target ∷ plain ∷ owner ∷ «data» ∷ [];
      step = λ p. Send (value_of component p) (value_of block p) (value_of target p) (value_of plain p) (eqb (value_of owner p) 1) (eqb (value_of «data» p) 1);
    }
    ∷ record { code = deliver_kind; fields = position ∷ []; step = λ p. Deliver (value_of position p) }
    ∷ record { code = raise_kind; fields = component ∷ block ∷ []; step = λ p. Raise (value_of component p) (value_of block p) }
    ∷ record { code = lower_kind; fields = component ∷ block ∷ []; step = λ p. Lower (value_of component p) (value_of block p) }
    ∷ record { code = forward_kind; fields = component ∷ block ∷ []; step = λ p. Forward (value_of component p) (value_of block p) }
    ∷ []

-- placeholder for an unknown kind byte: its only field matches no bytes, so it never parses
abbrev pub no_kind : Kind
no_kind = record { code = 0; fields = no_field ∷ []; step = λ p. Deliver 0 }

-- the kind with this kind byte
abbrev pub kind_coded : ℕ → List Kind → Kind
kind_coded k [] = no_kind
kind_coded k (x ∷ xs) = cond (eqb k x.code) x (kind_coded k xs)

unfoldable pub kind_of : ℕ → Kind
kind_of k = kind_coded k kinds

-- each field's value is in bounds
unfoldable pub in_bounds : List Field → List ℕ → Bool
in_bounds fs p = all (λ f. ltb (value_of f p) f.limit) fs

-- a step whose numbers fit their fields, as those of the code's steps do
abbrev pub step_in_bounds : Step → Bool
step_in_bounds s = in_bounds (kind_of (kind_in (field_array s))).fields (field_array s)

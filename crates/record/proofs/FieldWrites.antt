-- Tokens, words, cells and messages, written byte by byte as code writes them: by the laws of two values one behind the other.
use Prim.Native.Nat.{ℕ, ◌+◌, ◌≤◌}
use native.Mathlib.Omega.{arith}
use mathlib.Core.Path.{◌≡◌, refl, sym, ap, ◌∙◌}
use mathlib.Core.Bool.{Bool}
use mathlib.Core.List.{List, []}
use lib.ListN.{length, set, take, length-set}
use Rattle.spec_base.specs.Folds.{toℕ}
use Rattle.spec_base.specs.Layout.{slice, modify_at, byte, flag, pair, zeroed}
use Rattle.spec_base.proofs.Laws.{byte_lawful, flag_lawful, pair_lawful, cuts_length}
use Rattle.spec_base.proofs.Places.{write_byte, write_pair}
use Rattle.spec_base.proofs.WordBytes.{cover_first, cover_none}
use Rattle.spec_rack.specs.declared.Owner.{Owner}
use Rattle.spec_rack.specs.declared.Message.{Message}
use Rattle.spec_rack.specs.Rack.{present}
use Rattle.spec_rack.specs.RecordLayout.{Tokens, dirty, token_bytes, tokens, words, Endpoints, endpoints, message_header, from_message, message, message_size, target_offset, message_block_offset, message_plain_offset, message_zero_offset, message_words_offset, words_size}
use Rattle.spec_rack.proofs.LayoutParts.{ends_lawful, tokens_lawful, heading_lawful, heading_size, words_size_lem}

-- ---- written

over_length : (p n : ℕ) (f : List ℕ → List ℕ) (s : List ℕ) → length (f (slice p n s)) ≡ length (slice p n s) → length (modify_at p n f s) ≡ length s
over_length p n f s e = cuts_length p n (take p s) (f (slice p n s)) s refl e

-- tokens, one byte after the other
token_bytes_write : (p n : ℕ) (o v d : Bool) (s : List ℕ) → p + 4 ≤ length s
    → set (set (set (set s p n) (p + 1) (toℕ o)) (p + 2) (toℕ v)) (p + 3) (toℕ d) ≡ modify_at p 4 (token_bytes.write (n, (o, (v, d)))) s
token_bytes_write p n o v d s l =
    let s₁ : List ℕ = set s p n in
    let s₂ : List ℕ = set s₁ (p + 1) (toℕ o) in
    let s₃ : List ℕ = set s₂ (p + 2) (toℕ v) in
    let p₂ : p + 1 + 1 ≡ p + 2 = omega arith in
    let p₃ : p + 2 + 1 ≡ p + 3 = omega arith in
    sym
    (write_pair byte (pair flag (pair flag flag)) p s byte_lawful (n, (o, (v, d))) l
    ∙ ap (modify_at (p + 1) 3 ((pair flag (pair flag flag)).write (o, (v, d)))) (sym (write_byte p n s (omega arith)))
    ∙ write_pair flag (pair flag flag) (p + 1) s₁ flag_lawful (o, (v, d)) (simp length-set (omega arith))
    ∙ ap (modify_at (p + 1 + 1) 2 ((pair flag flag).write (v, d))) (sym (write_byte (p + 1) (toℕ o) s₁ (simp length-set (omega arith))))
    ∙ ap (λ (q : ℕ). modify_at q 2 ((pair flag flag).write (v, d)) s₂) p₂
    ∙ write_pair flag flag (p + 2) s₂ flag_lawful (v, d) (simp length-set (omega arith))
    ∙ ap (modify_at (p + 2 + 1) 1 (flag.write d)) (sym (write_byte (p + 2) (toℕ v) s₂ (simp length-set (omega arith))))
    ∙ ap (λ (q : ℕ). modify_at q 1 (flag.write d) s₃) p₃
    ∙ sym (write_byte (p + 3) (toℕ d) s₃ (simp length-set (omega arith))))

pub tokens_write : (p n : ℕ) (o : Owner) (v : Bool) (s : List ℕ) → p + 4 ≤ length s
    → set (set (set (set s p n) (p + 1) (toℕ (present o))) (p + 2) (toℕ v)) (p + 3) (toℕ (dirty o)) ≡ modify_at p 4 (tokens.write (n, (o, v))) s
tokens_write p n o v s l = token_bytes_write p n (present o) v (dirty o) s l

ends_write : (p a b c : ℕ) (s : List ℕ) → p + 3 ≤ length s → set (set (set s p a) (p + 1) b) (p + 2) c ≡ modify_at p 3 (endpoints.write (a, (b, c))) s
ends_write p a b c s l =
    let s₁ : List ℕ = set s p a in
    let s₂ : List ℕ = set s₁ (p + 1) b in
    let p₂ : p + 1 + 1 ≡ p + 2 = omega arith in
    sym
    (write_pair byte (pair byte byte) p s byte_lawful (a, (b, c)) l
    ∙ ap (modify_at (p + 1) 2 ((pair byte byte).write (b, c))) (sym (write_byte p a s (omega arith)))
    ∙ write_pair byte byte (p + 1) s₁ byte_lawful (b, c) (simp length-set (omega arith))
    ∙ ap (modify_at (p + 1 + 1) 1 (byte.write c)) (sym (write_byte (p + 1) b s₁ (simp length-set (omega arith))))
    ∙ ap (λ (q : ℕ). modify_at q 1 (byte.write c) s₂) p₂
    ∙ sym (write_byte (p + 2) c s₂ (simp length-set (omega arith))))

-- a byte made 0
zero_write : (p : ℕ) (s : List ℕ) → p + 1 ≤ length s → set s p 0 ≡ modify_at p 1 ((zeroed 1).write tt) s
zero_write p s l = sym (cover_first 0 [] s p 0 (omega arith) ∙ cover_none (set s p 0) (p + 1))

-- sender, target, block and tokens, and the byte behind them
heading_write : (p : ℕ) (v : Endpoints × Tokens) (s : List ℕ) → p + 8 ≤ length s
    → set (modify_at (p + message_plain_offset) 4 (tokens.write v.1) (modify_at p 3 (endpoints.write v.0) s)) (p + message_zero_offset) 0
    ≡ modify_at p message_words_offset (message_header.write v) s
unfolding message_header
heading_write p v s l =
    let s₁ : List ℕ = modify_at p 3 (endpoints.write v.0) s in
    let s₂ : List ℕ = modify_at (p + message_plain_offset) 4 (tokens.write v.1) s₁ in
    let l₁ : length s₁ ≡ length s = over_length p 3 (endpoints.write v.0) s (ends_lawful.keeps v.0 (slice p 3 s)) in
    let l₂ : length s₂ ≡ length s₁ = over_length (p + message_plain_offset) 4 (tokens.write v.1) s₁ (tokens_lawful.keeps v.1 (slice (p + message_plain_offset) 4 s₁)) in
    zero_write (p + message_zero_offset) s₂ (omega arith)
    ∙ ap (modify_at (p + message_zero_offset) 1 ((zeroed 1).write tt)) (sym (write_pair endpoints tokens p s ends_lawful v (omega arith)))
    ∙ sym (write_pair (pair endpoints tokens) (zeroed 1) p s (pair_lawful endpoints tokens ends_lawful tokens_lawful) (v, tt) l)

pub message_write : (p : ℕ) (m : Message) (s : List ℕ) → p + message_size ≤ length s
    → modify_at (p + message_words_offset) words_size (words.write m.words)
    (set
    (modify_at (p + message_plain_offset) 4 (tokens.write (m.header.plain, (m.header.owner, m.header.«data»)))
    (set (set (set s p m.header.sender) (p + target_offset) m.header.target) (p + message_block_offset) m.header.block))
    (p + message_zero_offset) 0)
    ≡ modify_at p message_size (message.write m) s
unfolding message
message_write p m s l =
    let v : Endpoints × Tokens = (from_message m).0 in
    ap
    (λ (t : List ℕ). modify_at (p + message_words_offset) words_size (words.write m.words) (set (modify_at (p + message_plain_offset) 4 (tokens.write v.1) t) (p + message_zero_offset) 0))
    (ends_write p m.header.sender m.header.target m.header.block s (omega arith))
    ∙ ap (modify_at (p + message_words_offset) words_size (words.write m.words)) (heading_write p v s (omega arith))
    ∙ (λ i. modify_at (p + sym heading_size i) (sym words_size_lem i) (words.write m.words) (modify_at p (sym heading_size i) (message_header.write v) s))
    ∙ sym (write_pair message_header words p s heading_lawful (from_message m) (rw (heading_size, words_size_lem) l))
    ∙ (λ i. modify_at p (heading_size i + words_size_lem i) (message.write m) s)

-- ---- what the functions on messages cite

pub same_three : (s : List ℕ) (p a b c : ℕ) → length (set (set (set s p a) (p + 1) b) (p + 2) c) ≡ length s
same_three s p a b c = simp length-set

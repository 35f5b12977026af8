-- The text of what was read is that of the whole input, since of a longer input only the first 65,536 bytes are used; and a text that was placed stands there.
use Rattle.std.proofs.Common.{◌≡◌, ℕ, ◌+◌, ◌≤◌, ◌<◌, List, [], ◌++◌, None, Some, IfSome, Result, Ok, Err, OnOk, length, take, drop, sym, ap, ◌∙◌, arith, append-nil, take_all, length-take-le}
use lib.Seq.{take-append_seam}
use mathlib.Core.Logic.{⊎_elim}
use Rattle.std.specs.declared.option.Option.{Option}
use Rattle.std.specs.Io.KnownBytes.{Consumes, IsAtEnd}
use Rattle.spec_base.specs.Placing.{place}
use Rattle.spec_base.proofs.Tests.{lt_or_le}
use Rattle.spec_rack.specs.Rules.{reply}
use Rattle.spec_rackrun.specs.Rackrun.{line}
use Rattle.spec_rackrun.specs.RuledText.{ruled_opening, ruled_lines, ruled_text}

-- of a list and of its front, as long as is asked for or all there is, the same is taken
same_front : (m : ℕ) (front rest : List ℕ) → length front ≤ m → (length front < m → rest ≡ []) → take m (front ++ rest) ≡ take m front
same_front m front rest fits none =
    ⊎_elim
    (λ (h : length front < m). ap (λ l. take m (front ++ l)) (none h) ∙ ap (take m) (append-nil front))
    (λ (h : m ≤ length front).
    let long : m ≡ length front = omega arith in
    ap (λ n. take n (front ++ rest)) long ∙ take-append_seam front rest ∙ sym (take_all m front fits))
    (lt_or_le (length front) m)

-- inputs with the same first bytes have the same text
same_text : (a b : List ℕ) → take 65536 a ≡ take 65536 b → ruled_text a ≡ ruled_text b
unfolding ruled_text
same_text a b e = ap (λ u. line 0 (reply (ruled_opening u)) ++ ruled_lines (ruled_opening u) (drop 3 u)) e

-- the front of a buffer where a text was placed
placed_front : (t out : List ℕ) → take (length t) (place 0 t out) ≡ t
unfolding place
placed_front t out = take-append_seam t (drop (0 + length t) out)

-- the text of the bytes that a reader gave, 65,536 or all that it had, is that of all that it had
text_of_all : (before after : Option (List ℕ)) (front out out' : List ℕ) (n : ℕ) → Consumes before after front → length front ≤ 65536
    → (length front < 65536 → IsAtEnd after) → n ≡ length (ruled_text front) → out' ≡ place 0 (ruled_text front) out
    → IfSome before (λ bytes. take n out' ≡ ruled_text bytes)
text_of_all None after front out out' n gave fits end long placed = tt
text_of_all (Some bytes) None front out out' n gave fits end long placed = absurd gave
text_of_all (Some bytes) (Some rest) front out out' n gave fits end long placed =
    ap (take n) placed
    ∙ ap (λ m. take m (place 0 (ruled_text front) out)) long
    ∙ placed_front (ruled_text front) out
    ∙ same_text front bytes (sym (ap (take 65536) gave ∙ same_front 65536 front rest fits end))

-- The same of the front of a buffer of 65,536 bytes, unless a read failed.
pub text_of_input : {T E : Type 0} (read : Result T E) (before after : Option (List ℕ)) (buffer out out' : List ℕ) (count room n : ℕ) → room ≡ 65536 → length buffer ≡ room
    → count ≤ length buffer → Consumes before after (take count buffer) → OnOk read (count < room → IsAtEnd after)
    → n ≡ length (ruled_text (take count buffer)) → out' ≡ place 0 (ruled_text (take count buffer)) out
    → OnOk read (IfSome before (λ bytes. take n out' ≡ ruled_text bytes))
text_of_input (Ok x) before after buffer out out' count room n sized filled fits gave end long placed =
    let front : length (take count buffer) ≡ count = length-take-le count buffer fits in
    text_of_all before after (take count buffer) out out' n gave (omega arith) (λ h. end (omega arith)) long placed
text_of_input (Err e) before after buffer out out' count room n sized filled fits gave end long placed = tt

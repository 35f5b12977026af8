-- Laws of the text: that a run of lines goes on, what the opening tells, and that its line and the steps' make the whole.
use Prim.Native.Nat.{ℕ, suc, ◌+◌, ◌*◌, ◌-◌, ◌/◌, ◌≤◌, ◌<◌, min}
use native.Mathlib.Nat.{zero-add, add-zero}
use native.Mathlib.Numerals.{add-one}
use native.Mathlib.Omega.{arith}
use mathlib.Core.Path.{◌≡◌, refl, sym, ap, ◌∙◌}
use mathlib.Core.List.{List, [], ◌++◌}
use lib.Seq.{take_all}
use lib.Dec.{eqb}
use mathlib.Core.Bool.{true, false}
use borrow.Author.Tests.{lt-ltb, eqb-true, eqb-false}
use native.Mathlib.Decide.{dec_le}
use lib.ListN.{length, take, drop, length-append, length-drop}
use borrow.Rule.Slice.PartMut.{put_mid}
use Rattle.spec_base.specs.Placing.{place}
use Rattle.spec_base.proofs.Lists.{rest_all}
use Rattle.spec_base.proofs.Placing.{length_place, place_none, place_more, place_rest}
use Rattle.spec_rack.specs.Replies.{Reply}
use Rattle.spec_rack.specs.Entries.{step_reply, step_after}
use Rattle.spec_rack.specs.Lists.{run_all, replies_of, replies, after}
use Rattle.spec_base.specs.Number.{Bytes}
use Rattle.std.specs.Prelude.{Ok, Err}
use Rattle.spec_rack.specs.declared.Answer.{Answer}
use Rattle.spec_rack.specs.RecordLayout.{longest_record}
use Rattle.spec_rackrun.specs.RuledText.{ruled_text}
use Rattle.spec_rackrun.proofs.RuledText.{text_by_rules}
use Rattle.spec_rackrun.specs.Rackrun.{line, lines, step_lines, opening_reply, opening_after, steps_offset, text, after_steps, record_after_run}
use Rattle.spec_wire.specs.Frames.{frame_size, frames}
use Rattle.wire_frames.proofs.Framing.{cuts_first, cuts_none}

-- ---- the steps' lines

-- the lines of the records of a list, of at most k - made, and the record after them
abbrev pub lines_left : ℕ → List ℕ → List ℕ → ℕ → List ℕ
lines_left k rec rest made = lines (made + 1) (replies rec (frames (k - made) rest))

abbrev pub record_left : ℕ → List ℕ → List ℕ → ℕ → List ℕ
record_left k rec rest made = after rec (frames (k - made) rest)

-- the first record ends inside the list, after three bytes or with it
pub frame_inside : (rest : List ℕ) → eqb (length rest) 0 ≡ false
    → (0 < frame_size rest) × ((frame_size rest ≤ length rest) × (16 + 16 * ((length rest - frame_size rest + 2) / 3) ≤ 16 * ((length rest + 2) / 3)))
unfolding frame_size
frame_inside rest some = let long : 0 < length rest = omega (arith, eqb-false (length rest) 0 some) in (omega arith, (omega arith, omega arith))

module _ (k made : ℕ) (rec rest : List ℕ) where
  lines_first : made < k → 0 < length rest → lines_left k rec rest made
      ≡ line (made + 1) (step_reply rec (take (frame_size rest) rest)) ++ lines_left k (step_after rec (take (frame_size rest) rest)) (drop (frame_size rest) rest) (made + 1)
  unfolding lines replies_of
  lines_first few some =
      let one : k - made ≡ suc (k - (made + 1)) = omega arith in
      rw (one, cuts_first (k - (made + 1)) rest some, add-one (made + 1)) refl

  record_first : made < k → 0 < length rest → record_left k rec rest made
      ≡ record_left k (step_after rec (take (frame_size rest) rest)) (drop (frame_size rest) rest) (made + 1)
  unfolding run_all
  record_first few some =
      let one : k - made ≡ suc (k - (made + 1)) = omega arith in
      rw (one, cuts_first (k - (made + 1)) rest some) refl

  lines_none : length rest ≡ 0 → lines_left k rec rest made ≡ []
  unfolding lines replies_of
  lines_none none = rw (cuts_none (k - made) rest none) refl

  record_none : length rest ≡ 0 → record_left k rec rest made ≡ rec
  unfolding run_all
  record_none none = rw (cuts_none (k - made) rest none) refl

module _ (k : ℕ) (rec₀ list out₀ : List ℕ) where
  -- what is left, placed after what there is, makes the whole
  pub record Going (rec rest out : List ℕ) (made to : ℕ) : Type 0 where
    pub few : made + length rest ≤ k
    pub room : to + 16 * ((length rest + 2) / 3) ≤ length out
    pub count : length (lines_left k rec₀ list 0) ≡ to + length (lines_left k rec rest made)
    pub whole : place 0 (lines_left k rec₀ list 0) out₀ ≡ place to (lines_left k rec rest made) out
    pub buffer : record_left k rec₀ list 0 ≡ record_left k rec rest made

  module _ (rec rest out : List ℕ) (made to : ℕ) (g : Going rec rest out made to) where
    -- one record more, and its line
    pub going_more : eqb (length rest) 0 ≡ false → (n : ℕ) → n ≡ 0 + frame_size rest → (frame rest' rec' part : List ℕ) (reply : Reply) (size : ℕ)
        → frame ≡ take n rest → rest' ≡ drop n rest → reply ≡ step_reply rec frame → rec' ≡ step_after rec frame
        → size ≤ 16 → size ≡ length (line (made + 1) reply) → part ≡ place 0 (line (made + 1) reply) (take (length out - to) (drop to out))
        → Going rec' rest' (put_mid to (length out - to) out part) (made + 1) (to + size)
    going_more some n size_is frame rest' rec' part reply size frame_is rest_is reply_is rec_is short length_is part_is =
        let long : 0 < length rest = omega (arith, eqb-false (length rest) 0 some) in
        let one : n ≡ frame_size rest = size_is ∙ zero-add (frame_size rest) in
        let now = lines_first k made rec rest (omega (arith, g.few)) long in
        let later = record_first k made rec rest (omega (arith, g.few)) long in
        let lines_are : lines_left k rec rest made ≡ line (made + 1) reply ++ lines_left k rec' rest' (made + 1) = cc in
        let record_is : record_left k rec rest made ≡ record_left k rec' rest' (made + 1) = cc in
        let inside = frame_inside rest some in
        let left : length rest' ≡ length rest - frame_size rest = omega (arith, ap length rest_is, length-drop n rest) in
        let fits : to + length (line (made + 1) reply) ≤ length out = omega (arith, g.room, inside.1.1) in
        let placed : put_mid to (length out - to) out part ≡ place to (line (made + 1) reply) out =
        ap (put_mid to (length out - to) out) part_is ∙ place_rest to (line (made + 1) reply) out fits in
        record {
          few = omega (arith, g.few, inside.0);
          room = omega (arith, g.room, inside.1.1, ap length placed, length_place to (line (made + 1) reply) out fits);
          count =
              g.count ∙ ap (λ (t : List ℕ). to + length t) lines_are
              ∙ omega (arith, length-append (line (made + 1) reply) (lines_left k rec' rest' (made + 1)));
          whole =
              g.whole
              ∙ ap (λ (t : List ℕ). place to t out) lines_are
              ∙ sym (place_more to (line (made + 1) reply) (lines_left k rec' rest' (made + 1)) out (omega arith))
              ∙ (λ i. place (to + sym length_is i) (lines_left k rec' rest' (made + 1)) (sym placed i));
          buffer = g.buffer ∙ record_is;
        }

    pub going_end : eqb (length rest) 0 ≡ true
        → ((to ≡ length (lines_left k rec₀ list 0)) × (out ≡ place 0 (lines_left k rec₀ list 0) out₀)) × (rec ≡ record_left k rec₀ list 0)
    going_end none =
        let empty = eqb-true (length rest) 0 none in
        let lines_are = lines_none k made rec rest empty in (
          (
            sym (g.count ∙ ap (λ (t : List ℕ). to + length t) lines_are ∙ add-zero to),
            sym (g.whole ∙ ap (λ (t : List ℕ). place to t out) lines_are ∙ place_none to out),
          ),
          sym (g.buffer ∙ record_none k made rec rest empty),
        )

-- ---- the opening

-- an opening that was accepted had its three bytes
accepted_long : (s used : List ℕ) (a : Answer) → Ok a ≡ opening_reply s used → 3 ≤ length used
unfolding opening_reply
accepted_long s used a e = by (dec_le 3 (length used))
  where
    by : Dec (3 ≤ length used) → 3 ≤ length used
    by (yes h) = h
    by (no h) = let torn = lt-ltb (length used) 3 (omega (arith, h)) in cc

-- ---- the whole text

-- the bytes that are used
pub used_is : (input : List ℕ) (n : ℕ) → n ≡ min (length input) 65536 → take n input ≡ take 65536 input
used_is input n is = by (dec_le 65536 (length input))
  where
    by : Dec (65536 ≤ length input) → take n input ≡ take 65536 input
    by (yes h) = let e : n ≡ 65536 = omega arith in ap (λ (k : ℕ). take k input) e
    by (no h) = take_all n input (omega (arith, h)) ∙ sym (take_all 65536 input (omega (arith, h)))

-- the steps start inside what is used
pub steps_inside : (s used : List ℕ) (r : Reply) (from : ℕ) → r ≡ opening_reply s used → from ≡ steps_offset r (length used) → from ≤ length used
steps_inside s used (Ok a) from e f = omega (arith, accepted_long s used a e)
steps_inside s used (Err x) from e f = omega arith

module _ (s input used rec : List ℕ) (r : Reply) (from : ℕ) (r_is : r ≡ opening_reply s used) (rec_is : rec ≡ opening_after s used)
    (from_is : from ≡ steps_offset r (length used)) where
  abbrev pub steps : List ℕ
  steps = take (length used - from) (drop from used)

  abbrev pub more : List ℕ
  more = lines 1 (replies rec (frames 65536 steps))

  -- their lines and what they leave are those of the text
  told : (more ≡ step_lines r rec (drop 3 used)) × (after rec (frames 65536 steps) ≡ after_steps r rec (drop 3 used))
  told = by r from_is
    where
      by : (q : Reply) → from ≡ steps_offset q (length used) → (more ≡ step_lines q rec (drop 3 used)) × (after rec (frames 65536 steps) ≡ after_steps q rec (drop 3 used))
      by (Ok a) e = rw (rest_all used from, e) (refl, refl)
      by (Err x) e =
          let none : length steps ≡ 0 = omega (arith, ap length (rest_all used from), length-drop from used) in
          (lines_none 65536 0 rec steps none, record_none 65536 0 rec steps none)

  module _ (used_are : used ≡ take 65536 input) where
    -- what the opening's line and those of the steps make, and what the run leaves
    whole : line 0 r ++ more ≡ text s input
    unfolding text
    whole = let steps_told = told in cc

    pub left : after rec (frames 65536 steps) ≡ record_after_run s input
    unfolding record_after_run
    left = let steps_told = told in cc

    -- where the buffer had room for every record, the text is that of the rules
    pub text_placed : (out out₁ out₂ : List ℕ) (size first last : ℕ) → Bytes s → longest_record ≤ length s → length out ≡ size → first + last ≤ size
        → first ≡ length (line 0 r) → out₁ ≡ place 0 (line 0 r) out → last ≡ length more → out₂ ≡ place 0 more (take (size - first) (drop first out₁))
        → (first + last ≡ length (ruled_text input)) × (put_mid first (size - first) out₁ out₂ ≡ place 0 (ruled_text input) out)
    text_placed out out₁ out₂ size first last bytes room sized fits first_is out₁_is last_is out₂_is =
        let all : line 0 r ++ more ≡ ruled_text input = whole ∙ text_by_rules s input bytes room in
        let long : size ≡ length out₁ = sym (ap length out₁_is ∙ length_place 0 (line 0 r) out (omega arith) ∙ sized) in
        let second : put_mid first (size - first) out₁ out₂ ≡ place first more out₁ =
        ap (put_mid first (size - first) out₁) out₂_is
        ∙ ap (λ (n : ℕ). put_mid first (n - first) out₁ (place 0 more (take (n - first) (drop first out₁)))) long
        ∙ place_rest first more out₁ (omega arith) in (
          omega (arith, length-append (line 0 r) more, ap length all),
          second
              ∙ (λ i. place (first_is i) more (out₁_is i))
              ∙ ap (λ (n : ℕ). place n more (place 0 (line 0 r) out)) (sym (zero-add (length (line 0 r))))
              ∙ place_more 0 (line 0 r) more out (omega arith)
              ∙ ap (λ (t : List ℕ). place 0 t out) all,
        )

-- a text that was placed is no longer than the buffer afterwards
pub placed_fits : (n : ℕ) (t out out' : List ℕ) → n ≡ length t → out' ≡ place 0 t out → n ≤ length out'
unfolding place
placed_fits n t out out' long placed = omega (arith, ap length placed, length-append t (drop (0 + length t) out))

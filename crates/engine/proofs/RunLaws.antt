-- A run over a list: what is left of the list, given to what there is by now, makes what the whole makes from the start.
use Prim.Native.Nat.{ℕ, suc, ◌+◌, ◌-◌, ◌≤◌, ◌<◌}
use native.Mathlib.Nat.{sub-zero, zero-add, add-zero}
use native.Mathlib.Numerals.{add-one}
use native.Mathlib.Omega.{arith}
use mathlib.Core.Path.{◌≡◌, refl, sym, ap, ◌∙◌}
use mathlib.Core.List.{List, [], ◌∷◌, ◌++◌, map, append_assoc}
use lib.ListN.{length, set, take, drop, length-set, length-drop, take-append-drop}
use lib.Seq.{drop-drop, take-suc-set, drop-set-lt, length-take-le}
use Rattle.spec_base.specs.Folds.{sum}
use Rattle.spec_rack.specs.Entries.{step_reply, step_after}
use Rattle.spec_wire.specs.Frames.{frame_size, frames}
use Rattle.wire_frames.proofs.Framing.{cuts_first, cuts_none, cuts_zero, span}
use Rattle.spec_rack.specs.Lists.{run_all, replies_of, after, replies, frames_from, RunResult}
use Rattle.spec_rack.specs.Results.{packed_reply}

module _ (rec₀ list : List ℕ) (at : ℕ) (out₀ : List ℕ) where
  -- the records that are left
  abbrev pub rest : ℕ → ℕ → List (List ℕ)
  rest place made = frames (length out₀ - made) (drop place list)

  pub record Going (rec out : List ℕ) (place made : ℕ) : Type 0 where
    pub few : made ≤ length out₀
    pub same : length out ≡ length out₀
    pub count : length (frames_from list at out₀) ≡ made + length (rest place made)
    pub buffer : after rec₀ (frames_from list at out₀) ≡ after rec (rest place made)
    pub replies : map packed_reply (replies rec₀ (frames_from list at out₀)) ++ drop (length (frames_from list at out₀)) out₀
        ≡ take made out ++ (map packed_reply (replies rec (rest place made)) ++ drop (made + length (rest place made)) out)
    pub goes_on : at + sum length (frames_from list at out₀) ≡ place + sum length (rest place made)

  pub going_start : Going rec₀ out₀ at 0
  going_start =
      record {
        few = omega arith;
        same = refl;
        count = simp (sub-zero, zero-add);
        buffer = simp sub-zero;
        replies = simp (sub-zero, zero-add);
        goes_on = simp sub-zero;
      }

  module _ (rec out : List ℕ) (place made : ℕ) (g : Going rec out place made) where
    -- one record more
    module _ (room : made < length out₀) (some : place < length list) (end : ℕ) (is : end ≡ place + frame_size (drop place list)) where
      rest_first : rest place made ≡ span list place end ∷ rest end (made + 1)
      rest_first =
          let n : ℕ = frame_size (drop place list) in
          let k : length out₀ - made ≡ suc (length out₀ - (made + 1)) = omega arith in
          let e : end - place ≡ n = omega arith in
          ap (λ (j : ℕ). frames j (drop place list)) k
          ∙ cuts_first (length out₀ - (made + 1)) (drop place list) (simp length-drop (omega arith))
          ∙ (λ i. take (sym e i) (drop place list) ∷ frames (length out₀ - (made + 1)) ((drop-drop n place list ∙ ap (λ (j : ℕ). drop j list) (sym is)) i))

      first_length : length (span list place end) ≡ end - place
      unfolding frame_size
      first_length = length-take-le (end - place) (drop place list) (simp length-drop (omega (arith, length-drop place list)))

      pub going_more : (v : ℕ) (rec' : List ℕ) → v ≡ packed_reply (step_reply rec (span list place end)) → rec' ≡ step_after rec (span list place end)
          → Going rec' (set out made v) end (made + 1)
      unfolding run_all replies_of
      going_more v rec' ev er =
          let more = rest end (made + 1) in
          let shift : made + suc (length more) ≡ made + 1 + length more = omega arith in
          let kept : take made out ++ (v ∷ []) ≡ take (made + 1) (set out made v) =
          sym (ap (λ (k : ℕ). take k (set out made v)) (add-one made) ∙ take-suc-set out made v (omega (arith, g.same))) in
          record {
            few = omega arith;
            same = length-set out made v ∙ g.same;
            count = g.count ∙ ap (λ (l : List (List ℕ)). made + length l) rest_first ∙ omega arith;
            buffer = g.buffer ∙ ap (after rec) rest_first ∙ ap (λ (s : List ℕ). after s more) (sym er);
            replies =
                g.replies
                ∙ ap (λ (l : List (List ℕ)). take made out ++ (map packed_reply (replies rec l) ++ drop (made + length l) out)) rest_first
                ∙ (λ i. take made out ++ (sym ev i ∷ (map packed_reply (replies (sym er i) more) ++ drop (shift i) out)))
                ∙ sym (append_assoc (take made out) (v ∷ []) (map packed_reply (replies rec' more) ++ drop (made + 1 + length more) out))
                ∙ (λ i. kept i ++ (map packed_reply (replies rec' more) ++ sym (drop-set-lt (made + 1 + length more) out made v (omega arith)) i));
            goes_on = g.goes_on ∙ ap (λ (l : List (List ℕ)). place + sum length l) rest_first ∙ omega (arith, first_length);
          }

    -- the end: where there is no room for another reply, or no byte is left, no record is left
    module _ (none : rest place made ≡ []) where
      pub going_end : RunResult rec₀ list at out₀ made rec place out
      unfolding run_all replies_of
      going_end =
          record {
            count = sym (g.count ∙ ap (λ (l : List (List ℕ)). made + length l) none ∙ add-zero made);
            buffer = sym (g.buffer ∙ ap (after rec) none);
            replies =
                sym
                (g.replies
                ∙ ap (λ (l : List (List ℕ)). take made out ++ (map packed_reply (replies rec l) ++ drop (made + length l) out)) none
                ∙ ap (λ (k : ℕ). take made out ++ drop k out) (add-zero made)
                ∙ take-append-drop made out);
            place = sym (g.goes_on ∙ ap (λ (l : List (List ℕ)). place + sum length l) none ∙ add-zero place);
          }

    pub going_full : length out₀ ≤ made → RunResult rec₀ list at out₀ made rec place out
    going_full full = going_end (ap (λ (k : ℕ). frames k (drop place list)) (let z : length out₀ - made ≡ 0 = omega arith in z) ∙ cuts_zero (drop place list))

    pub going_read : length list ≤ place → RunResult rec₀ list at out₀ made rec place out
    going_read read = going_end (cuts_none (length out₀ - made) (drop place list) (simp length-drop (omega arith)))

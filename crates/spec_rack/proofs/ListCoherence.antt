-- The list theorem, by induction on the list: each accepted step keeps the rack sound and coherent, and a refused one changes nothing.
use mathlib.Core.Path.{◌≡◌, refl, sym, ap, ap₂, ◌∙◌, subst}
use mathlib.Core.Bool.{true}
use mathlib.Core.List.{List, [], ◌∷◌, ◌++◌, append_assoc}
use Prim.Native.Nat.{ℕ}
use lib.ListN.{length, length-replicate}
use Rattle.spec_wire.specs.declared.Step.{Step}
use Rattle.spec_rack.specs.Rack.{Rack, fresh_block, fresh}
use Rattle.spec_rack.specs.Soundness.{sizes}
use Rattle.spec_rack.specs.Rules.{Outcome, refused, accepted, rules, rack_after, reply}
use Rattle.spec_rack.specs.FlatMemory.{Memory, Access, blank, accessed, memory_after, given, flat, access_of}
use Rattle.spec_rack.specs.Lists.{run_all, answers_of, accesses_of, ruled_after, ruled_reply, answered, handed, run, rack_answers, rack_accesses}
use Rattle.spec_rack.specs.Coherence.{Holds, Counts, RackCoherence}
use Rattle.spec_rack.proofs.SoundnessFacts.{Sound}
use Rattle.spec_rack.proofs.BlockInvariant.{Coherent}
use Rattle.spec_rack.proofs.StepPreservation.{Keeps, Kept, step_keeps}
use Rattle.spec_rack.proofs.FreshRack.{opened, fresh_sound, fresh_coherent}

pub flat_append : (mem : Memory) (xs ys : List Access) → flat mem (xs ++ ys) ≡ flat mem xs ++ flat (memory_after mem xs) ys
unfolding flat
flat_append mem [] ys = refl
flat_append mem (a ∷ xs) ys =
    ap (λ (l : List ℕ). given mem a ++ l) (flat_append (accessed mem a) xs ys)
    ∙ sym (append_assoc (given mem a) (flat (accessed mem a) xs) (flat (memory_after (accessed mem a) xs) ys))

memory_append : (mem : Memory) (xs ys : List Access) → memory_after mem (xs ++ ys) ≡ memory_after (memory_after mem xs) ys
memory_append mem [] ys = refl
memory_append mem (a ∷ xs) ys = memory_append (accessed mem a) xs ys

-- a list that took r to r', and the flat memory to mem': `got` is what its loads gave, `want` what the flat memory gives
pub record Ran (r r' : Rack) (mem' : Memory) (got want : List ℕ) : Type 0 where
  pub sound : Sound r'
  pub boards : r'.boards ≡ r.boards
  pub tokens : r'.tokens ≡ r.tokens
  pub count : length r'.blocks ≡ length r.blocks
  pub same : got ≡ want
  pub coherent : Coherent r' mem'

pub run_keeps : (ss : List Step) (r : Rack) (mem : Memory) → Sound r → Coherent r mem
    → Ran r (run r ss) (memory_after mem (rack_accesses r ss)) (rack_answers r ss) (flat mem (rack_accesses r ss))
unfolding run_all answers_of accesses_of flat
run_keeps [] r mem s coh = record { sound = s; boards = refl; tokens = refl; count = refl; same = refl; coherent = coh }
run_keeps (t ∷ ss) r mem s coh = go (λ q m sq cq. run_keeps ss q m sq cq) (rules r t) (step_keeps r s t)
  where
    go : ((q : Rack) (m : Memory) → Sound q → Coherent q m
        → Ran q (run q ss) (memory_after m (rack_accesses q ss)) (rack_answers q ss) (flat m (rack_accesses q ss)))
        → (o : Outcome) → Keeps (Kept r t) o
        → Ran r (run (rack_after r o) ss) (memory_after mem (handed (reply o) (access_of t) ++ rack_accesses (rack_after r o) ss))
        (answered (reply o) ++ rack_answers (rack_after r o) ss) (flat mem (handed (reply o) (access_of t) ++ rack_accesses (rack_after r o) ss))
    go rest (refused n) k = rest r mem s coh
    go rest (accepted a r') k =
        let i = rest r' (memory_after mem (access_of t)) k.sound (k.coherent mem coh) in
        record {
          sound = i.sound;
          boards = i.boards ∙ k.boards;
          tokens = i.tokens ∙ k.tokens;
          count = i.count ∙ k.count;
          same = ap₂ ◌++◌ (k.word mem coh) i.same ∙ sym (flat_append mem (access_of t) (rack_accesses r' ss));
          coherent = rw (memory_append mem (access_of t) (rack_accesses r' ss)) i.coherent;
        }

-- a list from a fresh rack
pub run_fresh : (n b t : ℕ) (ss : List Step) → sizes n b t ≡ true
    → Ran (fresh n b t) (run (fresh n b t) ss) (memory_after (blank b) (rack_accesses (fresh n b t) ss))
    (rack_answers (fresh n b t) ss) (flat (blank b) (rack_accesses (fresh n b t) ss))
run_fresh n b t ss fits = run_keeps ss (fresh n b t) (blank b) (fresh_sound n b t fits) (fresh_coherent n b t)

pub counts : (n b t : ℕ) (ss : List Step) → sizes n b t ≡ true → Counts n b t (run (fresh n b t) ss)
counts n b t ss fits =
    let v = run_fresh n b t ss fits in
    record {
      boards = v.boards;
      blocks = v.count ∙ length-replicate b (fresh_block n t);
      tokens = v.tokens;
      totals = λ k l. let q = v.sound.blocks k (rw (v.count, length-replicate) l) in (q.tokens ∙ v.tokens, q.owners);
    }

pub rack_coherence : RackCoherence
rack_coherence n b t r ss e =
    let o = opened n b t r e in
    subst (λ (q : Rack). Holds ruled_after ruled_reply access_of (λ rack. rack) n b t q ss) o.1
    ((run_fresh n b t ss o.0).same, counts n b t ss o.0)

-- `record_open::open` meets its contract: each test that refuses does so by its line, and past both the record has room.
use Prim.Native.Nat.{ℕ}
use native.Mathlib.Omega.{arith}
use mathlib.Core.Path.{◌≡◌, sym, ◌∙◌}
use mathlib.Core.Bool.{true}
use Rattle.spec_rack.specs.Soundness.{sizes}
use Rattle.spec_rack.specs.Rack.{fresh}
use Rattle.spec_rack.specs.RecordLayout.{put}
use Rattle.spec_rack.proofs.OpeningLaws.{open_size, open_short, open_pass, open_refused, open_accepted}
use Rattle.record_open.proofs.open.Goals as goal

-- what sizes in range say of the numbers that they were made of
same_sizes : (n b t n' b' t' : ℕ) → (n ≡ n') × (b ≡ b') × (t ≡ t') → sizes n b t ≡ true → sizes n' b' t' ≡ true
same_sizes n b t n' b' t' same h = sym (λ i. sizes (same.0 i) (same.1 i) (same.2 i)) ∙ h

pub returns-in_default : goal.returns-in_default
returns-in_default c =
    let e = open_refused c.args.boards c.args.blocks c.args.tokens c.args.rec.now _ (sym (open_size _ _ _ _ c.in_default.ensures)) in
    record { reply = sym e.0; buffer = sym e.1 }

pub returns-then-rec-from : goal.returns-then-rec-from
returns-then-rec-from c =
    let h = same_sizes _ _ _ c.args.boards c.args.blocks c.args.tokens c.in-Some.ensures c.in-Some.sizes.in_range in
    let e = open_refused c.args.boards c.args.blocks c.args.tokens c.args.rec.now _ (sym (open_short _ _ _ _ h (omega (arith, c.in-Some.ensures)))) in
    record { reply = sym e.0; buffer = sym e.1 }

pub returns : goal.returns
returns c =
    let same = c.in-Some.ensures in
    let h = same_sizes _ _ _ c.args.boards c.args.blocks c.args.tokens same c.in-Some.sizes.in_range in
    let e = open_accepted c.args.boards c.args.blocks c.args.tokens c.args.rec.now (sym (open_pass _ _ _ _ h (omega (arith, same)))) in
    record { reply = sym e.0; buffer = c.write_fresh.ensures ∙ (λ i. put (fresh (same.0 i) (same.1 i) (same.2 i)) c.args.rec.now) ∙ sym e.1 }

-- The record's round trips, by the laws of its layout: a sound rack whose words fit is one that a record can hold.
use Prim.Native.Nat.{ℕ, ◌^◌, ◌≤◌, ◌<◌}
use mathlib.Core.Path.{◌≡◌, sym, ap, ◌∙◌, subst}
use mathlib.Core.Bool.{Bool, true}
use mathlib.Core.List.{List}
use lib.ListN.{length}
use lib.Dec.{ltb}
use borrow.Author.Tests.{ltb-true, lt-ltb}
use Rattle.spec_base.specs.Folds.{all}
use Rattle.spec_base.specs.Number.{Bytes}
use Rattle.spec_base.proofs.Tests.{and_l, and_r, and_of}
use Rattle.spec_base.proofs.Folds.{all_at, all_of, all_every, every_all}
use Rattle.spec_rack.specs.Rack.{Cell, Block, Rack, no_block, block_at}
use Rattle.spec_rack.specs.declared.Message.{Message}
use Rattle.spec_rack.specs.Soundness.{sound, sound_bytes}
use Rattle.spec_rack.specs.RecordLayout.{record_length, get, put}
use Rattle.spec_rack.specs.RecordTrips.{fitting, words_fit, Written, RecordTrips}
use Rattle.spec_rack.proofs.SoundnessFacts.{Sound, sound_facts, sound_test}
use Rattle.spec_rack.proofs.BlockInvariant.{Fit, Fits}
use Rattle.spec_rack.proofs.GetPut.{get_put, put_get, put_keeps, put_behind, put_formed}
use Rattle.spec_rack.proofs.Representable.{holdable}
use Rattle.spec_rack.proofs.SoundRecord.{live_of, sound_of}

fit_of : (ws : List ℕ) → fitting ws ≡ true → Fit ws
fit_of ws = all_every (λ (w : ℕ). w < 2 ^ 32) (λ w. ltb w (2 ^ 32)) ws (λ w e. ltb-true w (2 ^ 32) e)

fit_test : (ws : List ℕ) → Fit ws → fitting ws ≡ true
fit_test ws = every_all (λ (w : ℕ). w < 2 ^ 32) (λ w. ltb w (2 ^ 32)) ws (λ w l. lt-ltb w (2 ^ 32) l)

abbrev cells_fit : Block → Bool
cells_fit k = all (λ x. fitting x.words) k.cells

abbrev mesh_fits : List Message → Bool
mesh_fits ms = all (λ m. fitting m.words) ms

fits_of : (r : Rack) → words_fit r ≡ true → Fits r
fits_of r h =
    record {
      cells = λ b l.
          all_every (λ (x : Cell). Fit x.words) (λ x. fitting x.words) (block_at r b).cells (λ x. fit_of x.words)
          (all_at (λ (k : Block). cells_fit k ≡ true) r.blocks
          (all_every (λ (k : Block). cells_fit k ≡ true) cells_fit r.blocks (λ k e. e) (and_l (all cells_fit r.blocks) (mesh_fits r.mesh) h)) b no_block l);
      mesh =
          all_every (λ (m : Message). Fit m.words) (λ m. fitting m.words) r.mesh (λ m. fit_of m.words)
          (and_r (all cells_fit r.blocks) (mesh_fits r.mesh) h);
    }

fits_test : (r : Rack) → Fits r → words_fit r ≡ true
fits_test r f =
    and_of (all cells_fit r.blocks) (mesh_fits r.mesh)
    (every_all (λ (k : Block). cells_fit k ≡ true) cells_fit r.blocks (λ k e. e)
    (all_of (λ (k : Block). cells_fit k ≡ true) no_block r.blocks
    (λ b l. every_all (λ (x : Cell). Fit x.words) (λ x. fitting x.words) (block_at r b).cells (λ x. fit_test x.words) (f.cells b l))))
    (every_all (λ (m : Message). Fit m.words) (λ m. fitting m.words) r.mesh (λ m. fit_test m.words) f.mesh)

written_trip : (r : Rack) (s : List ℕ) → sound r ≡ true → words_fit r ≡ true → Bytes s → record_length (length r.blocks) ≤ length s → Written r s
written_trip r s ok fit bytes room =
    let sr = sound_facts r ok in
    let fr = fits_of r fit in
    let h = holdable r sr fr in
    let back = get_put r h s room in
    record {
      back = back;
      sound = sound_of (put r s) (record { well_formed = put_formed r h s room bytes; sound = subst Sound (sym back) sr; fits = subst Fits (sym back) fr });
      rest = record { size = put_keeps r h s room; behind = put_behind r h s room };
    }

pub record_trips : RecordTrips
record_trips =
    record {
      written = written_trip;
      read = λ s bytes ok. let live = live_of s bytes ok in (sound_test (get s) live.sound, fits_test (get s) live.fits);
      unchanged = λ s bytes ok. put_get s (live_of s bytes ok).well_formed;
      only = λ r s ok fit bytes room same.
          let w = written_trip r s ok fit bytes room in
          (subst (λ (t : List ℕ). sound_bytes t ≡ true) same w.sound, ap get (sym same) ∙ w.back);
    }

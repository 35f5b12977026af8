-- A sound record has the format, since its header is well-formed.
use Prim.Native.Nat.{ℕ, ◌≤◌}
use native.Mathlib.Nat.{le_refl}
use native.Mathlib.Omega.{arith}
use mathlib.Core.Path.{◌≡◌, sym, ap, ◌∙◌}
use mathlib.Core.Logic.{⊎_elim}
use mathlib.Core.Bool.{true, false}
use mathlib.Core.List.{List}
use lib.Dec.{leb}
use lib.ListN.{length, take, drop}
use lib.Seq.{take-take}
use borrow.Author.Tests.{eqb-true, leb-true}
use Rattle.spec_base.specs.Number.{Bytes, number, digits}
use Rattle.spec_base.proofs.Numbers.{byte_numbers}
use Rattle.spec_base.proofs.Parts.{bytes_take, bytes_drop, length_part}
use Rattle.spec_base.proofs.Tests.{either, and_l, and_r}
use Rattle.spec_rack.specs.RecordLayout.{format_offset, format_magic, format_in, header, rack_layout, record_length, layout_of, get, blocks_in}
use Rattle.spec_rack.specs.Soundness.{sound, well_formed_record, sound_bytes}
use Rattle.spec_rack.specs.Opening.{open_check, open_reply}
use Rattle.spec_rack.specs.RecordFormat.{format_bytes, format_bytes_in, Format}
use Rattle.spec_rack.proofs.LayoutParts.{header_size_lem, header_form}
use Rattle.spec_rack.proofs.SoundRecord.{Live, sound_of}
use Rattle.spec_rack.proofs.OpeningLaws.{passes, open_bytes, open_sound}

module _ (s : List ℕ) (ok : sound_bytes s ≡ true) where
  formed : well_formed_record s ≡ true
  unfolding sound_bytes
  formed = and_l (well_formed_record s) (sound (get s)) ok

  long : record_length (blocks_in s) ≤ length s
  unfolding well_formed_record
  long = leb-true (record_length (blocks_in s)) (length s) (and_l (leb (record_length (blocks_in s)) (length s)) ((layout_of s).well_formed s) formed)

  as_number : format_in s ≡ format_magic
  unfolding well_formed_record rack_layout
  as_number =
      eqb-true (format_in s) format_magic
      (sym (ap (λ (k : ℕ). header.well_formed (take k s)) header_size_lem ∙ header_form s)
      ∙ and_l (header.well_formed (take header.size s)) _ (and_r (leb (record_length (blocks_in s)) (length s)) ((layout_of s).well_formed s) formed))

  -- four bytes go one to one with their number
  sound_format : Bytes s → format_bytes_in s ≡ format_bytes
  sound_format h =
      let four : length (format_bytes_in s) ≡ 4 = length_part format_offset 4 s (omega (arith, long)) in
      sym (byte_numbers.read_and_written (format_bytes_in s) (bytes_take 4 (drop format_offset s) (bytes_drop format_offset s h)))
      ∙ (λ i. digits (four i) (number (sym (take-take 4 4 (drop format_offset s) (le_refl 4)) i)))
      ∙ ap (digits 4) as_number

pub live_format : (s : List ℕ) → Live s → format_bytes_in s ≡ format_bytes
live_format s live = sound_format s (sound_of s live) live.well_formed.bytes

pub format : Format
unfolding open_reply
format =
    record {
      another = λ s h ne. ⊎_elim (λ (ok : sound_bytes s ≡ true). absurd (ne (sound_format s ok h))) (λ (bad : sound_bytes s ≡ false). bad) (either (sound_bytes s));
      opened = λ n b t s h e.
          let pass = passes (open_check n b t (length s)) e in
          sound_format _ (open_sound n b t s pass h) (open_bytes n b t s pass h);
    }

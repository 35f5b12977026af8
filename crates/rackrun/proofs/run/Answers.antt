-- The text that was placed is that of all that the reader gives, and is within its buffer.
use Rattle.std.proofs.Common.{ℕ}
use Rattle.std.proofs.lemmas.List.{length-replicate}
use Rattle.rackrun_text.proofs.RunText.{placed_fits}
use Rattle.rackrun.proofs.InputText.{text_of_input}
use Rattle.rackrun.proofs.run.Goals as goal

pub returns-clause-fits : goal.returns-clause-fits
returns-clause-fits g c = placed_fits _ _ _ _ c.report-length.ensures.text.0 c.report-length.ensures.text.1

pub returns-clause-text : goal.returns-clause-text
returns-clause-text g c =
    let read = c.read_full-count in
    let text = c.report-length.ensures.text in
    text_of_input _ _ _ _ _ _ _ _ _ (length-replicate {A = ℕ} 65536 0) read.auto.buffer read.ensures.fits read.ensures.bytes read.ensures.whole text.0 text.1

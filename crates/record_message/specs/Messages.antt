-- Document 01, "Sound means", with document 02, No. 2, of each message by itself, as it is decided by its bytes.
use Rattle.std.specs.Prelude.{ℕ, ◌+◌, ◌*◌, Bool, not, ◌&&◌, ◌||◌, List, get_or, eqb, leb, ltb}
use Rattle.spec_base.specs.Folds.{all_below}
use Rattle.spec_base.specs.Layout.{slice}
use Rattle.spec_rack.specs.Soundness.{sound_message}
use Rattle.spec_rack.specs.RecordLayout.{message_size, message, data_offset, message_block_offset, message_dirty_offset, message_owner_offset, message_plain_offset, message_words_offset, message_zero_offset, target_offset, words_size}

-- plain tokens in the low 16 bits and owners above them, so that one sum counts both: of a message's bytes at a place
abbrev pub token_sum_at : List ℕ → ℕ → ℕ
token_sum_at s at = get_or s at 0 + get_or s (at + 1) 0 * 65536

-- of the message at a place, on a rack of n boards and b blocks: a known sender, a known and different target, a known block
abbrev pub endpoints_known : ℕ → ℕ → List ℕ → ℕ → Bool
endpoints_known n b s at =
    (leb (get_or s at 0) n && leb (get_or s (at + target_offset) 0) n)
    && (not (eqb (get_or s at 0) (get_or s (at + target_offset) 0)) && ltb (get_or s (at + message_block_offset) 0) b)

-- an owner without data: one, clean, on its way home
abbrev pub sound_bare_owner : ℕ → ℕ → ℕ → Bool
sound_bare_owner owner dirty target = eqb owner 1 && eqb (dirty + target) 0

-- its owner has data or may go bare, it carries a token, its mark stands only beside an owner, and the last byte of its header is 0
abbrev pub sound_flags : List ℕ → ℕ → Bool
sound_flags s at =
    let owner = get_or s (at + message_owner_offset) 0 in
    let dirty = get_or s (at + message_dirty_offset) 0 in
    (leb owner (get_or s (at + data_offset) 0) || sound_bare_owner owner dirty (get_or s (at + target_offset) 0))
    && ltb 0 (get_or s (at + message_plain_offset) 0 + owner)
    && (leb dirty owner && eqb (get_or s (at + message_zero_offset) 0) 0)

-- its data mark is 0 or 1, and without data its words are 0
abbrev pub words_sound : List ℕ → ℕ → Bool
words_sound s at =
    let mark = get_or s (at + data_offset) 0 in
    eqb mark 1 || (eqb mark 0 && all_below words_size (λ i. eqb (get_or s (at + message_words_offset + i) 0) 0))

-- the whole message is as the layout has it, and sound
unfoldable pub sound_message_at : ℕ → ℕ → List ℕ → ℕ → Bool
sound_message_at n b s at = message.well_formed (slice at message_size s) && sound_message n b (message.read (slice at message_size s))

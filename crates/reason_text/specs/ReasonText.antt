-- THE TEXT THAT `insert_check` PRINTS, byte by byte (document 02, W-209).
use Rattle.std.specs.Prelude.{List, [], ◌∷◌, ◌++◌, ℕ}
use Rattle.text_row.specs.Lines.{decimal, line_feed, free_word, number_line, refusal_line}
use Rattle.reason.specs.InsertReason.{reason_in_dump}
use Rattle.reason.specs.Reason.{Reason}
use Rattle.reason.specs.Reason.{Refused, NoKey, Held, Slot, Split}
use Rattle.reason_key.specs.KeyFile.{key_in}
use Rattle.call_repair.specs.Repairing.{card_room}

-- "no key"
unfoldable pub no_key_word : List ℕ
no_key_word = 110 ∷ 111 ∷ 32 ∷ 107 ∷ 101 ∷ 121 ∷ []

-- "held "
unfoldable pub held_word : List ℕ
held_word = 104 ∷ 101 ∷ 108 ∷ 100 ∷ 32 ∷ []

-- "slot"
unfoldable pub slot_word : List ℕ
slot_word = 115 ∷ 108 ∷ 111 ∷ 116 ∷ []

-- "split "
unfoldable pub split_word : List ℕ
split_word = 115 ∷ 112 ∷ 108 ∷ 105 ∷ 116 ∷ 32 ∷ []

-- " need "
unfoldable pub need_word : List ℕ
need_word = 32 ∷ 110 ∷ 101 ∷ 101 ∷ 100 ∷ 32 ∷ []

-- "`split J free F need M`"
unfoldable pub split_line : ℕ → ℕ → ℕ → List ℕ
split_line run free need = (split_word ++ decimal run) ++ (free_word ++ decimal free) ++ (need_word ++ decimal need) ++ line_feed

-- "it prints `held V`, `slot`, or `split J free F need M`"; "refusals print first, as `list` prints them"; "prints `no key`"
unfoldable pub reason_text : Reason → List ℕ
reason_text (Refused number) = refusal_line number
reason_text NoKey = no_key_word ++ line_feed
reason_text (Held value) = number_line held_word value
reason_text Slot = slot_word ++ line_feed
reason_text (Split run free need) = split_line run free need

-- what is printed of a dump of a card up to some greatest N and of the bytes of the file that has the key
unfoldable pub check_text : ℕ → List ℕ → List ℕ → List ℕ
check_text greatest dump file = reason_text (reason_in_dump greatest dump (card_room greatest) (key_in file))

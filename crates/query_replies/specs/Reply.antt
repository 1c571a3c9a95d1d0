-- How replies are written: whole lines that end with LF.
use Rattle.std.specs.Prelude.{◌≢◌, ℕ, List, [], ◌∷◌, ◌++◌, length, decimal, codes, flat_map}
use Rattle.json.specs.Print.{quoted}
use Rattle.spatial_base.specs.Key.{Name}
use Rattle.spatial_base.specs.Point.{Position}
use Rattle.query_replies.specs.Fault.{reason_text}
use Rattle.query_replies.specs.Found.{found_text}
use Rattle.query_replies.specs.Parts.{key_text, point_text}
use Rattle.query_replies.specs.declared.fault.LineFault.TheVariants as faults
use Rattle.query_replies.specs.declared.reply.Reply.{Reply}
use Rattle.query_replies.specs.declared.reply.Reply.TheVariants.{Nothing, Applied, Full, Worn, Bad, Found, Place, Absent, Count}
use Rattle.query_replies.specs.declared.reply.UpdateDone.{UpdateDone}
use Rattle.query_replies.specs.declared.reply.UpdateDone.TheVariants as done

-- what an update is answered
abbrev pub done_text : UpdateDone → List ℕ
done_text done.Ok = codes "ok\n"
done_text done.Replaced = codes "ok replaced\n"
done_text done.Absent = codes "absent\n"

-- `WORD IMPACT`
abbrev pub word_line : List ℕ × ℕ → List ℕ
word_line pair = quoted pair.0 ++ (32 ∷ (decimal pair.1 ++ 10 ∷ []))

-- `N LABEL`, the label as a JSON string literal, and a line for each of the N words
abbrev pub labelled_text : List (List ℕ × ℕ) → List ℕ → List ℕ
labelled_text words label = decimal (length words) ++ (32 ∷ (quoted label ++ (10 ∷ flat_map word_line words)))

-- `place KEY LON LAT N LABEL`, and a line for each word
abbrev pub place_text : Name → Position → List (List ℕ × ℕ) → List ℕ → List ℕ
place_text key point words label =
    codes "place " ++ (key_text key ++ (32 ∷ (point_text point ++ (32 ∷ labelled_text words label))))

-- what a reply writes
unfoldable pub text_of_reply : Reply → List ℕ
text_of_reply Nothing = []
text_of_reply (Applied update) = done_text update
text_of_reply Full = codes "full\n"
text_of_reply Worn = codes "worn\n"
text_of_reply (Bad fault) = codes "bad " ++ (reason_text fault ++ 10 ∷ [])
text_of_reply (Found answer query explain) = found_text explain query answer
text_of_reply (Place key point words label) = place_text key point words label
text_of_reply Absent = codes "absent\n"
text_of_reply (Count n) = codes "count " ++ (decimal n ++ 10 ∷ [])

-- a refusal has a reason: want of memory is none
abbrev pub HasReason : Reply → Type 0
HasReason Nothing = Unit {0}
HasReason (Applied update) = Unit {0}
HasReason Full = Unit {0}
HasReason Worn = Unit {0}
HasReason (Bad fault) = fault ≢ faults.Memory
HasReason (Found answer query explain) = Unit {0}
HasReason (Place key point words label) = Unit {0}
HasReason Absent = Unit {0}
HasReason (Count n) = Unit {0}

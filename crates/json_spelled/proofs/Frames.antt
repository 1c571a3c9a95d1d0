-- The frames of a reader's stack, and its vectors as lists.
use Rattle.std.proofs.Common.{◌≡◌, List, [], ◌∷◌, ◌++◌, map, reverse, length, refl, ap, ◌∙◌, String, string_bytes}
use Rattle.std.proofs.lemmas.List.{reverse-append, map-append, length-reverse, length-map}
use Rattle.std.specs.declared.alloc.Global.{Global}
use Rattle.json_spelled.specs.View.{json_of, jsons_of, entries_of, entry_of}
use Rattle.json_spelled.specs.Reader.{frame_of, frames_of}
use Rattle.json_spelled.specs.declared.reader.Open.{Open}
use Rattle.json_spelled.specs.declared.tree.Tree.{Tree}

-- what is opened last is innermost
pub frames_pushed : (opens : List Open) (x : Open) → frames_of (opens ++ x ∷ []) ≡ frame_of x ∷ frames_of opens
unfolding frames_of
frames_pushed opens x = ap reverse (map-append frame_of opens (x ∷ [])) ∙ reverse-append (map frame_of opens) (frame_of x ∷ [])

-- one item more
pub jsons_pushed : (items : List Tree) (x : Tree) → jsons_of (items ++ x ∷ []) ≡ jsons_of items ++ json_of x ∷ []
jsons_pushed items x = map-append json_of items (x ∷ [])

-- one member more
pub entries_pushed : (members : List (String Global × Tree)) (x : String Global × Tree)
    → entries_of (members ++ x ∷ []) ≡ entries_of members ++ (string_bytes x.0, json_of x.1) ∷ []
entries_pushed members x = ap (map entry_of) (map-append (λ m. (m.0, json_of m.1)) members (x ∷ []))
    ∙ map-append entry_of (map (λ m. (m.0, json_of m.1)) members) ((x.0, json_of x.1) ∷ [])

-- no frame stands around the outermost value
pub frames_empty : frames_of [] ≡ []
unfolding frames_of
frames_empty = refl

-- there are as many frames as are open
pub length_frames : (opens : List Open) → length (frames_of opens) ≡ length opens
unfolding frames_of
length_frames opens = length-reverse (map frame_of opens) ∙ length-map opens frame_of

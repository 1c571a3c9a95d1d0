-- What a look-up gives on any pages that tell their bytes, each page that it goes over keeping the rules in its place.
use Rattle.std.specs.Prelude.{◌≡◌, ℕ, zero, suc, ◌^◌, List, [], ◌∷◌, Option, None}
use Rattle.page_face.specs.FreeList.{PageMap}
use Rattle.btree_nodes.specs.declared.form.Form.{Form}
use Rattle.btree_nodes.specs.Rows.{Row, lookup, first_from}
use Rattle.btree_nodes.specs.Nodes.{rows_in}
use Rattle.btree_nodes.specs.Ways.{IsWayOf}

-- What the leaf at the end of the key's way has there; an empty map has nothing.
abbrev pub IsLookedUp : Form → PageMap → ℕ → ℕ → ℕ → Option (List ℕ) → Type 0
IsLookedUp form pages count zero key found = found ≡ None
IsLookedUp form pages count (suc n) key found =
    (leaf : ℕ) × (from : ℕ) × (to : ℕ) × IsWayOf form pages count (suc n) key leaf from to × (found ≡ lookup key (rows_in form (pages leaf)))

-- The leaf at the end of the key's way has the keys below `to`, and this first row from the key on, or none.
abbrev pub IsFirstThere : Form → PageMap → ℕ → ℕ → ℕ → ℕ → Option Row → Type 0
IsFirstThere form pages count root key to found =
    (leaf : ℕ) × (from : ℕ) × IsWayOf form pages count root key leaf from to × (first_from key (rows_in form (pages leaf)) ≡ found)

-- The first row from a key on, past leaves that have none up to these keys, one behind another. Where there is none, no leaf follows.
abbrev pub IsFirstPast : Form → PageMap → ℕ → ℕ → List ℕ → ℕ → Option Row → Type 0
IsFirstPast form pages count root [] key found =
    (to : ℕ) × IsFirstThere form pages count root key to found × (found ≡ None → to ≡ 256 ^ form.key)
IsFirstPast form pages count root (next ∷ rest) key found =
    IsFirstThere form pages count root key next None × IsFirstPast form pages count root rest next found

-- So it is past some leaves; an empty map has no row.
abbrev pub IsFirstFound : Form → PageMap → ℕ → ℕ → ℕ → Option Row → Type 0
IsFirstFound form pages count zero key found = found ≡ None
IsFirstFound form pages count (suc n) key found = (keys : List ℕ) × IsFirstPast form pages count (suc n) keys key found

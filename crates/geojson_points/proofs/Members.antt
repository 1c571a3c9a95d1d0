-- The members of an object as a tree keeps them.
use Rattle.std.proofs.Common.{◌≡◌, ℕ, Bool, true, false, cond, List, [], ◌∷◌, reverse, find, Option, Some, None, option_map, refl, sym, ap, ◌∙◌, String, Vec, string_bytes, bytes_eq}
use Rattle.std.specs.Option.{option_or}
use Rattle.std.specs.declared.alloc.Global.{Global}
use Rattle.std.proofs.lemmas.List.{reverse-append}
use Rattle.std.proofs.lemmas.List.Folds.{find-append}
use Rattle.json_spelled.specs.Json.{Json, list, object, no_items, items_onto, no_members, members_onto}
use Rattle.json_spelled.specs.View.{json_of, jsons_of, entries_of, view_step}
use Rattle.json_spelled.specs.declared.tree.Tree.{Tree}
use Rattle.json_spelled.specs.declared.tree.Tree.TheVariants as trees
use Rattle.json_spelled.specs.declared.tree.Tree.TheOpen.{Tree-F}
use Rattle.json_spelled.specs.declared.tree.Tree.TheFolds.{fold-roll-Tree}
use Rattle.geojson_points.specs.Object.{last_of, elements}

-- a name and a value as a vector has them
abbrev pub Member : Type 0
Member = String Global × Tree

-- a member of this name
abbrev pub is_named : List ℕ → Member → Bool
is_named name m = bytes_eq (string_bytes m.0) name

-- the value of a member
abbrev pub value_of : Member → Json
value_of m = json_of m.1

-- the first of two that is there, seen through a function
option_map-option_or : {X Y : Type 0} (f : X → Y) (o p : Option X) → option_map f (option_or o p) ≡ option_or (option_map f o) (option_map f p)
option_map-option_or f None p = refl
option_map-option_or f (Some x) p = refl

-- a member alone, where it passes a test
option_map-cond : {X Y : Type 0} (f : X → Y) (b : Bool) (x : X) → option_map f (cond b (Some x) None) ≡ cond b (Some (f x)) None
option_map-cond f true x = refl
option_map-cond f false x = refl

-- the last of a name is the first from the back
pub last_found : (name : List ℕ) (members : List Member) → option_map value_of (find (is_named name) (reverse members)) ≡ last_of name (members_onto (entries_of members) no_members)
last_found name [] = refl
last_found name (m ∷ members) =
    ap (λ ms. option_map value_of (find (is_named name) ms)) (reverse-append (m ∷ []) members)
    ∙ ap (option_map value_of) (find-append (is_named name) (reverse members) (m ∷ []))
    ∙ option_map-option_or value_of (find (is_named name) (reverse members)) (find (is_named name) (m ∷ []))
    ∙ ap (λ o. option_or o (option_map value_of (find (is_named name) (m ∷ [])))) (last_found name members)
    ∙ ap (option_or (last_of name (members_onto (entries_of members) no_members))) (option_map-cond value_of (is_named name m) m)

-- the elements of an array that a list makes are that list
pub elements_onto : (values : List Json) → elements (items_onto values no_items) ≡ values
elements_onto [] = refl
elements_onto (value ∷ values) = ap (λ vs. value ∷ vs) (elements_onto values)

-- the value of a list
pub json_of_list : (v : Vec Tree Global) → json_of (trees.List v) ≡ list (items_onto (jsons_of v.items) no_items)
json_of_list v = ap json_of (sym (trees.rolls-List v)) ∙ fold-roll-Tree Json view_step (Tree-F.List v)

-- the value of an object
pub json_of_members : (v : Vec Member Global) → json_of (trees.Members v) ≡ object (members_onto (entries_of v.items) no_members)
json_of_members v = ap json_of (sym (trees.rolls-Members v)) ∙ fold-roll-Tree Json view_step (Tree-F.Members v)

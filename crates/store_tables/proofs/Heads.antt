-- Damage of the tables is of another rule than Head, and that of a map's page, or of a take, is of another one than Words, too.
use Rattle.std.proofs.Common.{◌≡◌, ◌≢◌, ◌⊎◌, ℕ, zero, suc, ◌<◌, ◌∷◌, [], List, Bool, true, false, refl, ⊎_elim, ap}
use Rattle.page_face.specs.FreeList.{PageMap, BreaksFree}
use Rattle.page_face.specs.declared.fault.Damage.{Damage}
use Rattle.page_face.specs.declared.fault.Rule.{Rule}
use Rattle.page_face.specs.declared.fault.Rule.TheVariants.{Head, Link, Words}
use Rattle.btree_nodes.specs.declared.form.Form.{Form}
use Rattle.btree_nodes.specs.Damages.{AreReadable, AskedSince, Breaks, IsDamaged, IsRefusedTake, SomeChild}
use Rattle.btree_nodes.specs.Nodes.{Entry, entries_in, half_of, least_of_root}
use Rattle.btree_nodes.specs.Tree.{level_of, next_key, with_low}
use Rattle.paged_map.specs.Maps.{IsMapDamaged}
use Rattle.spatial_base.specs.Key.{Name}
use Rattle.store_tables.specs.declared.tables.Tables.{Tables}
use Rattle.store_tables.specs.Broken.{IsNumberDamage, IsPlaceDamage, IsReleaseDamage, words_disagree}
use Rattle.store_tables.specs.Holding.{numbers_form, places_form, texts_form}

-- the rules Head and Words, which are page 0's own
on_head : Rule → Bool
on_head Head = true
on_head Words = true
on_head _ = false

breaks-off_head : (rule : Rule) (number kind level width least : ℕ) (order : Type 0) (page : List ℕ) → Breaks rule number kind level width least order page → on_head rule ≡ false
unfolding on_head
breaks-off_head Head number kind level width least order page h = absurd h
breaks-off_head Words number kind level width least order page h = absurd h
breaks-off_head _ number kind level width least order page h = refl

free-off_head : (rule : Rule) (page : List ℕ) → BreaksFree rule page → on_head rule ≡ false
unfolding on_head
free-off_head Head page h = absurd h
free-off_head Words page h = absurd h
free-off_head _ page h = refl

link-off_head : (rule : Rule) → rule ≡ Link → on_head rule ≡ false
unfolding on_head
link-off_head rule e = ap on_head e

off-head : (rule : Rule) → on_head rule ≡ false → rule ≢ Head
unfolding on_head
off-head rule h e = let on : on_head rule ≡ true = ap on_head e in cc

off-words : (rule : Rule) → on_head rule ≡ false → rule ≢ Words
unfolding on_head
off-words rule h e = let on : on_head rule ≡ true = ap on_head e in cc

of-some_child : (D : ℕ → ℕ → ℕ → Type 0) (C : Type 0) → ((c a b : ℕ) → D c a b → C) → (high : ℕ) (es : List Entry) → SomeChild D high es → C
of-some_child D C each high [] d = absurd d
of-some_child D C each high (e ∷ es) d = ⊎_elim (λ here. each e.1 e.0 (next_key high es) here) (λ there. of-some_child D C each high es there) d

-- that of a page of a tree
tree-off_head : (form : Form) (pages : PageMap) (count : ℕ) (damage : Damage) (least level page low high : ℕ) → IsDamaged form pages count damage least level page low high → on_head damage.rule ≡ false
tree-off_head form pages count damage least zero page low high d =
    ⊎_elim (λ link. link-off_head damage.rule link.0) (λ b. breaks-off_head damage.rule _ _ _ _ _ _ _ b) d.1
tree-off_head form pages count damage least (suc level) page low high d =
    ⊎_elim
    (λ here. ⊎_elim (λ link. link-off_head damage.rule link.0) (λ b. breaks-off_head damage.rule _ _ _ _ _ _ _ b) here.1)
    (λ there. of-some_child (IsDamaged form pages count damage (half_of form level) level) (on_head damage.rule ≡ false) (λ c a b. tree-off_head form pages count damage (half_of form level) level c a b)
    high (with_low low (entries_in form (pages page))) there)
    d

-- that of a page of a map
map-off_head : (form : Form) (pages : PageMap) (count root : ℕ) (damage : Damage) → IsMapDamaged form pages count root damage → on_head damage.rule ≡ false
map-off_head form pages count zero damage d = absurd d
map-off_head form pages count (suc n) damage d = tree-off_head form pages count damage (least_of_root (level_of (pages (suc n)))) (level_of (pages (suc n))) (suc n) 0 _ d

pub map-spares_head : (form : Form) (pages : PageMap) (count root : ℕ) (damage : Damage) → IsMapDamaged form pages count root damage → damage.rule ≢ Head
map-spares_head form pages count root damage d = off-head damage.rule (map-off_head form pages count root damage d)

pub map-spares_words : (form : Form) (pages : PageMap) (count root : ℕ) (damage : Damage) → IsMapDamaged form pages count root damage → damage.rule ≢ Words
map-spares_words form pages count root damage d = off-words damage.rule (map-off_head form pages count root damage d)

-- that which a take of a page was refused for, where the counted pages are told
take-off_head : (pages : PageMap) (count first : ℕ) (damage : Damage) → AreReadable pages count → first < count → IsRefusedTake pages count first damage → on_head damage.rule ≡ false
take-off_head pages count first damage told counted r =
    ⊎_elim (λ form. free-off_head damage.rule (pages first) form.1) (λ link. link-off_head damage.rule link.0) (r.1 (told first r.0 counted))

put-off_head : (form : Form) (old : PageMap) (few root : ℕ) (pages : PageMap) (count first : ℕ) (before asked : List ℕ) (damage : Damage) → AreReadable pages count → first < count
    → (IsMapDamaged form old few root damage × AskedSince before asked damage.page) ⊎ IsRefusedTake pages count first damage → on_head damage.rule ≡ false
put-off_head form old few root pages count first before asked damage told counted d = ⊎_elim (λ map. map-off_head form old few root damage map.0) (λ take. take-off_head pages count first damage told counted take) d

-- that of a row that was put
pub put-spares_head : (form : Form) (old : PageMap) (few root : ℕ) (pages : PageMap) (count first : ℕ) (before asked : List ℕ) (damage : Damage) → AreReadable pages count → first < count
    → (IsMapDamaged form old few root damage × AskedSince before asked damage.page) ⊎ IsRefusedTake pages count first damage → damage.rule ≢ Head
put-spares_head form old few root pages count first before asked damage told counted d = off-head damage.rule (put-off_head form old few root pages count first before asked damage told counted d)

pub put-spares_words : (form : Form) (old : PageMap) (few root : ℕ) (pages : PageMap) (count first : ℕ) (before asked : List ℕ) (damage : Damage) → AreReadable pages count → first < count
    → (IsMapDamaged form old few root damage × AskedSince before asked damage.page) ⊎ IsRefusedTake pages count first damage → damage.rule ≢ Words
put-spares_words form old few root pages count first before asked damage told counted d = off-words damage.rule (put-off_head form old few root pages count first before asked damage told counted d)

-- that of a look-up of a place
pub place-spares_head : (pages : PageMap) (count root : ℕ) (key : Name) (before asked : List ℕ) (damage : Damage) → IsPlaceDamage pages count root key before asked damage → damage.rule ≢ Head
place-spares_head pages count root key before asked damage d e = ⊎_elim (λ map. map-spares_head places_form pages count root damage map.0 e) (λ row. (let is = row.0 in cc)) d

-- that of a look-up of a number
pub number-spares_head : (pages : PageMap) (count root number : ℕ) (before asked : List ℕ) (damage : Damage) → IsNumberDamage pages count root number before asked damage → damage.rule ≢ Head
number-spares_head pages count root number before asked damage d e = ⊎_elim (λ map. map-spares_head numbers_form pages count root damage map.0 e) (λ row. (let is = row.0 in cc)) d

-- that of tables of words that disagree
pub words-spares_head : (damage : Damage) → damage ≡ words_disagree → damage.rule ≢ Head
words-spares_head damage is e = let rule = ap (λ (d : Damage). d.rule) is in cc

-- that of a release
pub release-spares_head : (pages : PageMap) (count : ℕ) (tables : Tables) (number : ℕ) (before asked : List ℕ) (damage : Damage) → IsReleaseDamage pages count tables number before asked damage → damage.rule ≢ Head
release-spares_head pages count tables number before asked damage d e =
    ⊎_elim (λ map. map-spares_head numbers_form pages count tables.numbers damage map.0 e)
    (λ rest. ⊎_elim (λ row. (let is = row.0 in cc))
    (λ more. ⊎_elim (λ map. map-spares_head texts_form pages count tables.texts damage map.0 e) (λ words. words-spares_head damage words.0 e) more) rest) d

use Rattle.std.proofs.Common.{arith, ◌≡◌, ◌+◌, ◌^◌, ◌<◌, ◌≤◌, ℕ, ◌∙◌, sym, ap, List, [], ◌∷◌, subst, refl, suc, Err, inl, inr, ⊎_elim, ◌⊎◌}
use Rattle.std.specs.Option.{is_some}
use Rattle.std.proofs.lemmas.Result.{err_from_is_err_and}
use Rattle.page_face.specs.FreeList.{PageMap}
use Rattle.page_face.specs.Causes.{IsUncounted}
use Rattle.page_face.specs.declared.fault.Damage.{Damage}
use Rattle.page_face.specs.Number.{number}
use Rattle.btree_nodes.proofs.Numbers.{number_below}
use Rattle.btree_nodes.specs.declared.form.Form.{Form}
use Rattle.btree_nodes.specs.Supply.{view, View, IsSupplied, spare}
use Rattle.btree_nodes.specs.Rows.{lookup, put}
use Rattle.btree_nodes.specs.Nodes.{least_of_root, half_of}
use Rattle.btree_nodes.specs.Tree.{IsTree, IsFan, total, rows_at, uses, map_uses, level_of}
use Rattle.btree_nodes.specs.Damages.{IsDamaged, IsRefusedTake, AreReadable, AskedSince, AsksOnly}
use Rattle.btree_nodes.specs.Store.{IsGrown, below_rows}
use Rattle.btree_nodes.proofs.Trees.{tree-size}
use Rattle.btree_nodes.proofs.Harms.{asks-more, asks-nothing}
use Rattle.paged_map.specs.declared.putting.Rooted.{Rooted}
use Rattle.paged_map.specs.Maps.{HasBecome}
use Rattle.btree_nodes.proofs.Walks.{same-fault, told-read, uses-self, asks-read, damage-link, named-refused}
use Rattle.btree_nodes.specs.Steps.{low_of, high_of}
use Rattle.btree_nodes.proofs.Roots.{enter}
use Rattle.btree_insert.proofs.Roots.{to-root, rooted}
use Rattle.paged_map.proofs.Behind.{stays-behind}
use Rattle.paged_map.proofs.Maps.{map-damage, map-undamaged, kept-counted, becomes}
use Rattle.btree_nodes.proofs.Roots.{map-uses}
use Rattle.btree_nodes.proofs.Roots.{map-rows}
use Rattle.btree_nodes.proofs.Roots.{map-tree}
use Rattle.paged_map.proofs.putting.put_below.Goals as goal

pub put_in-requires-clause-from : goal.put_in-requires-clause-from
put_in-requires-clause-from g c = let z = c.all-bounds.ensures.low c.args.form.key in omega arith

pub put_in-requires-clause-to : goal.put_in-requires-clause-to
put_in-requires-clause-to g c =
    rw (c.all-bounds.ensures.high c.args.form.key)
    (subst (λ (n : ℕ). number c.args.key.now < 256 ^ n) c.requires.key (number_below c.args.key.now (λ i. let f = c.type_inv.key i in omega arith)))

pub put_in-requires-clause-counted : goal.put_in-requires-clause-counted
put_in-requires-clause-counted g c = λ u. let f = c.in-Ok.ensures.uncounted (subst (λ (n : ℕ). IsUncounted n c.args.root) c.in-Ok.ensures.count u) in cc

pub returns-in-Err-clause-no_false_damage : goal.returns-in-Err-clause-no_false_damage
returns-in-Err-clause-no_false_damage g c =
    let form : Form = c.args.form in
    let old : PageMap = g.P.Pages.pages c.args.pages.now in
    let count : ℕ = g.P.Pages.count c.args.pages.now in
    let first : ℕ = g.P.Pages.first c.args.pages.now in
    let root : ℕ = c.args.root in
    let lv : ℕ = level_of (old root) in
    let some = c.requires.root in
    (λ free kept damage e.
    let d = c.look.ensures.damaged damage (c.in-Err.is ∙ ap Err (same-fault {T = Rooted} _ _ e)) in
    map-undamaged form old count root damage kept.map (kept-counted form (view old count first free) root kept)
    (map-damage form old count root damage some (damage-link form old count damage (least_of_root lv) lv root 0 (256 ^ form.key) d.0 d.1)))

pub returns-in-Err-clause-damaged : goal.returns-in-Err-clause-damaged
returns-in-Err-clause-damaged g c =
    let form : Form = c.args.form in
    let old : PageMap = g.P.Pages.pages c.args.pages.now in
    let count : ℕ = g.P.Pages.count c.args.pages.now in
    let first : ℕ = g.P.Pages.first c.args.pages.now in
    let root : ℕ = c.args.root in
    let lv : ℕ = level_of (old root) in
    let some = c.requires.root in
    (λ told damage e.
    let was = c.in-Err.is ∙ ap Err (same-fault {T = Rooted} _ _ e) in
    let d = c.look.ensures.damaged damage was in
    inl (
      map-damage form old count root damage some (damage-link form old count damage (least_of_root lv) lv root 0 (256 ^ form.key) d.0 d.1),
      named-refused (g.P.Pages.asked c.args.pages.now) (g.P.Pages.asked c.look.new.self) root c.look.result damage c.look.ensures.asked was (ap (λ (x : Damage). x.page) d.0),
    ))

pub returns-in-Err-clause-stays : goal.returns-in-Err-clause-stays
returns-in-Err-clause-stays g c = λ told damage e. inl (c.look.ensures.pages, c.look.ensures.count)

pub returns-in-Err-clause-own : goal.returns-in-Err-clause-own
returns-in-Err-clause-own g c = λ told.
    let form : Form = c.args.form in
    let old : PageMap = g.P.Pages.pages c.args.pages.now in
    let count : ℕ = g.P.Pages.count c.args.pages.now in
    let first : ℕ = g.P.Pages.first c.args.pages.now in
    let root : ℕ = c.args.root in
    let lv : ℕ = level_of (old root) in
    let some = c.requires.root in
    let asked : List ℕ = g.P.Pages.asked c.args.pages.now in
    let mine : ℕ → ℕ = map_uses form old root in
    let u = uses-self form old lv root in
    let m = map-uses form old root root some in
    subst (λ (x : List ℕ). AsksOnly mine asked x) (sym c.look.ensures.asked) (asks-read mine asked asked root c.look.result (asks-nothing mine asked asked refl) (omega arith))

pub returns-in_err-grown-clause-no_false_damage : goal.returns-in_err-grown-clause-no_false_damage
returns-in_err-grown-clause-no_false_damage g c =
    let passed = err_from_is_err_and c.from_residual.result c.from_residual.ensures.1 in
    let form : Form = c.args.form in
    let old : PageMap = g.P.Pages.pages c.args.pages.now in
    let count : ℕ = g.P.Pages.count c.args.pages.now in
    let first : ℕ = g.P.Pages.first c.args.pages.now in
    let root : ℕ = c.args.root in
    let lv : ℕ = level_of (old root) in
    let some = c.requires.root in
    let read = c.in-Ok.ensures in
    let asked : List ℕ = g.P.Pages.asked c.args.pages.now in
    rw (passed.1, passed.2) (λ free kept damage e.
    let map = kept.map in
    let tree = map-tree form old root some map in
    let bytes = read.gives (tree-size form (least_of_root lv) old lv root 0 (256 ^ form.key) tree) in
    let e_level = c.level-level.ensures ∙ ap level_of c.looked.ensures ∙ ap level_of bytes in
    let e_least = c.root_least.ensures ∙ ap least_of_root e_level in
    let once : (n : ℕ) → uses form old lv root n + spare free count n ≤ 1 = λ n. let m = map-uses form old root n some in let o = kept.once n in omega arith in
    let claim = enter (λ p k v l w h. g.P.Pages.looked c.look.new.self ≡ p root → IsTree form l p v root w h → IsSupplied (view p k (g.P.Pages.first c.look.new.self) free) → ((n : ℕ) → uses form p v root n + spare free k n ≤ 1)
    → IsDamaged form p k damage l v root w h)
    old (g.P.Pages.pages c.look.new.self) count (g.P.Pages.count c.look.new.self) lv c.level-level.result (least_of_root lv) c.root_least.result 0 (low_of form c.all-bounds.result) (256 ^ form.key) (high_of form c.all-bounds.result) read.pages read.count e_level e_least (c.all-bounds.ensures.low form.key) (c.all-bounds.ensures.high form.key) (λ a b d o. c.put_in.ensures.supplied free a b d o damage (c.in_err-grown.was ∙ ap Err (same-fault {T = Rooted} _ _ e))) in
    map-undamaged form old count root damage map (kept-counted form (view old count first free) root kept) (map-damage form old count root damage some (claim bytes tree (rw read.first kept.supplied) once)))

pub returns-in_err-grown-clause-damaged : goal.returns-in_err-grown-clause-damaged
returns-in_err-grown-clause-damaged g c =
    let passed = err_from_is_err_and c.from_residual.result c.from_residual.ensures.1 in
    let form : Form = c.args.form in
    let old : PageMap = g.P.Pages.pages c.args.pages.now in
    let count : ℕ = g.P.Pages.count c.args.pages.now in
    let first : ℕ = g.P.Pages.first c.args.pages.now in
    let root : ℕ = c.args.root in
    let lv : ℕ = level_of (old root) in
    let some = c.requires.root in
    let read = c.in-Ok.ensures in
    let asked : List ℕ = g.P.Pages.asked c.args.pages.now in
    rw (passed.1, passed.2) (λ told damage e.
    let bytes = read.gives (told-read old count root told (λ u. let f = read.uncounted u in cc)) in
    let e_level = c.level-level.ensures ∙ ap level_of c.looked.ensures ∙ ap level_of bytes in
    let e_least = c.root_least.ensures ∙ ap least_of_root e_level in
    let claim = enter (λ p k v l w h. AreReadable p k → g.P.Pages.looked c.look.new.self ≡ p root → (IsDamaged form p k damage l v root w h × AskedSince asked (g.P.Pages.asked c.put_in.new.pages) damage.page) ⊎ IsRefusedTake (g.P.Pages.pages c.put_in.new.pages) (g.P.Pages.count c.put_in.new.pages) (g.P.Pages.first c.put_in.new.pages) damage)
    old (g.P.Pages.pages c.look.new.self) count (g.P.Pages.count c.look.new.self) lv c.level-level.result (least_of_root lv) c.root_least.result 0 (low_of form c.all-bounds.result) (256 ^ form.key) (high_of form c.all-bounds.result) read.pages read.count e_level e_least (c.all-bounds.ensures.low form.key) (c.all-bounds.ensures.high form.key) (λ a b. c.put_in.ensures.damaged asked read.asked a b damage (c.in_err-grown.was ∙ ap Err (same-fault {T = Rooted} _ _ e))) in
    ⊎_elim (λ d. inl (map-damage form old count root damage some d.0, d.1)) (λ r. inr r) (claim told bytes))

pub returns-in_err-grown-clause-stays : goal.returns-in_err-grown-clause-stays
returns-in_err-grown-clause-stays g c =
    let passed = err_from_is_err_and c.from_residual.result c.from_residual.ensures.1 in
    let old : PageMap = g.P.Pages.pages c.args.pages.now in
    let count : ℕ = g.P.Pages.count c.args.pages.now in
    let root : ℕ = c.args.root in
    let read = c.in-Ok.ensures in
    rw (passed.1, passed.2) (λ told damage e.
    let bytes = read.gives (told-read old count root told (λ u. let f = read.uncounted u in cc)) ∙ sym (ap (λ (p : PageMap). p root) read.pages) in
    stays-behind old (g.P.Pages.pages c.look.new.self) (g.P.Pages.pages c.put_in.new.pages) count (g.P.Pages.count c.look.new.self) (g.P.Pages.count c.put_in.new.pages)
    (IsRefusedTake (g.P.Pages.pages c.put_in.new.pages) (g.P.Pages.count c.put_in.new.pages) (g.P.Pages.first c.put_in.new.pages) damage) read.pages read.count
    (λ t. c.put_in.ensures.stays t bytes damage (c.in_err-grown.was ∙ ap Err (same-fault {T = Rooted} _ _ e))) told)

pub returns-in_err-grown-clause-own : goal.returns-in_err-grown-clause-own
returns-in_err-grown-clause-own g c = λ told.
    let form : Form = c.args.form in
    let old : PageMap = g.P.Pages.pages c.args.pages.now in
    let count : ℕ = g.P.Pages.count c.args.pages.now in
    let first : ℕ = g.P.Pages.first c.args.pages.now in
    let root : ℕ = c.args.root in
    let lv : ℕ = level_of (old root) in
    let some = c.requires.root in
    let read = c.in-Ok.ensures in
    let asked : List ℕ = g.P.Pages.asked c.args.pages.now in
    let bytes = read.gives (told-read old count root told (λ u. let f = read.uncounted u in cc)) in
    let e_level = c.level-level.ensures ∙ ap level_of c.looked.ensures ∙ ap level_of bytes in
    let e_least = c.root_least.ensures ∙ ap least_of_root e_level in
    let claim = enter (λ p k v l w h. AreReadable p k → g.P.Pages.looked c.look.new.self ≡ p root → AsksOnly (uses form p v root) asked (g.P.Pages.asked c.put_in.new.pages))
    old (g.P.Pages.pages c.look.new.self) count (g.P.Pages.count c.look.new.self) lv c.level-level.result (least_of_root lv) c.root_least.result 0 (low_of form c.all-bounds.result) (256 ^ form.key) (high_of form c.all-bounds.result) read.pages read.count e_level e_least (c.all-bounds.ensures.low form.key) (c.all-bounds.ensures.high form.key) (c.put_in.ensures.own asked read.asked) in
    asks-more (uses form old lv root) (map_uses form old root) asked _ (λ n h. let m = map-uses form old root n some in omega arith) (claim told bytes)

pub returns-then-grown-eq0-clause-told : goal.returns-then-grown-eq0-clause-told
returns-then-grown-eq0-clause-told g c = λ told.
    let old : PageMap = g.P.Pages.pages c.args.pages.now in
    let count : ℕ = g.P.Pages.count c.args.pages.now in
    let root : ℕ = c.args.root in
    let read = c.in-Ok.ensures in
    let bytes = read.gives (told-read old count root told (λ u. let f = read.uncounted u in cc)) ∙ sym (ap (λ (p : PageMap). p root) read.pages) in
    (c.in_ok-grown.ensures.kept (rw (read.pages, read.count) told) bytes).told

pub returns-then-grown-eq0-clause-becomes : goal.returns-then-grown-eq0-clause-becomes
returns-then-grown-eq0-clause-becomes g c = λ free kept.
    let form : Form = c.args.form in
    let old : PageMap = g.P.Pages.pages c.args.pages.now in
    let count : ℕ = g.P.Pages.count c.args.pages.now in
    let first : ℕ = g.P.Pages.first c.args.pages.now in
    let root : ℕ = c.args.root in
    let lv : ℕ = level_of (old root) in
    let some = c.requires.root in
    let read = c.in-Ok.ensures in
    let asked : List ℕ = g.P.Pages.asked c.args.pages.now in
    let map = kept.map in
    let tree = map-tree form old root some map in
    let bytes = read.gives (tree-size form (least_of_root lv) old lv root 0 (256 ^ form.key) tree) in
    let e_level = c.level-level.ensures ∙ ap level_of c.looked.ensures ∙ ap level_of bytes in
    let e_least = c.root_least.ensures ∙ ap least_of_root e_level in
    let once : (n : ℕ) → uses form old lv root n + spare free count n ≤ 1 = λ n. let m = map-uses form old root n some in let o = kept.once n in omega arith in
    let grew = subst (λ (x : ℕ). IsGrown form (least_of_root lv) (view old count x free) (uses form old lv root) (g.P.Pages.pages c.put_in.new.pages) (g.P.Pages.count c.put_in.new.pages) (g.P.Pages.first c.put_in.new.pages) lv root 0 (256 ^ form.key) (put (number c.args.key.now) c.args.value.now (rows_at form old lv root)) c.in_ok-grown.grown.right (number c.put_in.new.middle)) read.first
    (enter (λ p k v l w h. g.P.Pages.looked c.look.new.self ≡ p root → IsTree form l p v root w h → IsSupplied (view p k (g.P.Pages.first c.look.new.self) free) → ((n : ℕ) → uses form p v root n + spare free k n ≤ 1)
    → IsGrown form l (view p k (g.P.Pages.first c.look.new.self) free) (uses form p v root) (g.P.Pages.pages c.put_in.new.pages) (g.P.Pages.count c.put_in.new.pages) (g.P.Pages.first c.put_in.new.pages) v root w h (put (number c.args.key.now) c.args.value.now (rows_at form p v root)) c.in_ok-grown.grown.right (number c.put_in.new.middle))
    old (g.P.Pages.pages c.look.new.self) count (g.P.Pages.count c.look.new.self) lv c.level-level.result (least_of_root lv) c.root_least.result 0 (low_of form c.all-bounds.result) (256 ^ form.key) (high_of form c.all-bounds.result) read.pages read.count e_level e_least (c.all-bounds.ensures.low form.key) (c.all-bounds.ensures.high form.key) (c.in_ok-grown.ensures.grown free) bytes tree (rw read.first kept.supplied) once) in
    let more = c.put_in.ensures.frame.count in
    let whole = subst (λ (r : ℕ). IsGrown form (least_of_root lv) (view old count first free) (uses form old lv root) (g.P.Pages.pages c.put_in.new.pages) (g.P.Pages.count c.put_in.new.pages) (g.P.Pages.first c.put_in.new.pages) lv root 0 (256 ^ form.key) (put (number c.args.key.now) c.args.value.now (rows_at form old lv root)) r (number c.put_in.new.middle)) c.if-grown-eq0.true grew in
    subst (HasBecome form (view old count first free) (g.P.Pages.pages c.put_in.new.pages) (g.P.Pages.count c.put_in.new.pages) (g.P.Pages.first c.put_in.new.pages) root root) (ap (put (number c.args.key.now) c.args.value.now) (sym (map-rows form old root some)))
    (becomes form (view old count first free) (g.P.Pages.pages c.put_in.new.pages) (g.P.Pages.count c.put_in.new.pages) (g.P.Pages.first c.put_in.new.pages) lv root root (number c.put_in.new.middle) (uses form old lv root) (put (number c.args.key.now) c.args.value.now (rows_at form old lv root)) some (let e = read.count in omega arith) kept
    (λ n. sym (map-uses form old root n some)) whole)

pub returns-then-grown-eq0-clause-had : goal.returns-then-grown-eq0-clause-had
returns-then-grown-eq0-clause-had g c = λ map.
    let form : Form = c.args.form in
    let old : PageMap = g.P.Pages.pages c.args.pages.now in
    let count : ℕ = g.P.Pages.count c.args.pages.now in
    let first : ℕ = g.P.Pages.first c.args.pages.now in
    let root : ℕ = c.args.root in
    let lv : ℕ = level_of (old root) in
    let some = c.requires.root in
    let read = c.in-Ok.ensures in
    let asked : List ℕ = g.P.Pages.asked c.args.pages.now in
    let tree = map-tree form old root some map in
    let bytes = read.gives (tree-size form (least_of_root lv) old lv root 0 (256 ^ form.key) tree) in
    let e_level = c.level-level.ensures ∙ ap level_of c.looked.ensures ∙ ap level_of bytes in
    let e_least = c.root_least.ensures ∙ ap least_of_root e_level in
    let claim = enter (λ p k v l w h. g.P.Pages.looked c.look.new.self ≡ p root → IsTree form l p v root w h → c.in_ok-grown.grown.had ≡ is_some (lookup (number c.args.key.now) (rows_at form p v root)))
    old (g.P.Pages.pages c.look.new.self) count (g.P.Pages.count c.look.new.self) lv c.level-level.result (least_of_root lv) c.root_least.result 0 (low_of form c.all-bounds.result) (256 ^ form.key) (high_of form c.all-bounds.result) read.pages read.count e_level e_least (c.all-bounds.ensures.low form.key) (c.all-bounds.ensures.high form.key) c.in_ok-grown.ensures.had in
    claim bytes tree ∙ ap (λ x. is_some (lookup (number c.args.key.now) x)) (sym (map-rows form old root some))

pub returns-then-grown-eq0-clause-own : goal.returns-then-grown-eq0-clause-own
returns-then-grown-eq0-clause-own g c = λ told.
    let form : Form = c.args.form in
    let old : PageMap = g.P.Pages.pages c.args.pages.now in
    let count : ℕ = g.P.Pages.count c.args.pages.now in
    let first : ℕ = g.P.Pages.first c.args.pages.now in
    let root : ℕ = c.args.root in
    let lv : ℕ = level_of (old root) in
    let some = c.requires.root in
    let read = c.in-Ok.ensures in
    let asked : List ℕ = g.P.Pages.asked c.args.pages.now in
    let bytes = read.gives (told-read old count root told (λ u. let f = read.uncounted u in cc)) in
    let e_level = c.level-level.ensures ∙ ap level_of c.looked.ensures ∙ ap level_of bytes in
    let e_least = c.root_least.ensures ∙ ap least_of_root e_level in
    let claim = enter (λ p k v l w h. AreReadable p k → g.P.Pages.looked c.look.new.self ≡ p root → AsksOnly (uses form p v root) asked (g.P.Pages.asked c.put_in.new.pages))
    old (g.P.Pages.pages c.look.new.self) count (g.P.Pages.count c.look.new.self) lv c.level-level.result (least_of_root lv) c.root_least.result 0 (low_of form c.all-bounds.result) (256 ^ form.key) (high_of form c.all-bounds.result) read.pages read.count e_level e_least (c.all-bounds.ensures.low form.key) (c.all-bounds.ensures.high form.key) (c.put_in.ensures.own asked read.asked) in
    asks-more (uses form old lv root) (map_uses form old root) asked _ (λ n h. let m = map-uses form old root n some in omega arith) (claim told bytes)

pub returns-then-level-clause-own : goal.returns-then-level-clause-own
returns-then-level-clause-own g c = λ told.
    let form : Form = c.args.form in
    let old : PageMap = g.P.Pages.pages c.args.pages.now in
    let count : ℕ = g.P.Pages.count c.args.pages.now in
    let first : ℕ = g.P.Pages.first c.args.pages.now in
    let root : ℕ = c.args.root in
    let lv : ℕ = level_of (old root) in
    let some = c.requires.root in
    let read = c.in-Ok.ensures in
    let asked : List ℕ = g.P.Pages.asked c.args.pages.now in
    let bytes = read.gives (told-read old count root told (λ u. let f = read.uncounted u in cc)) in
    let e_level = c.level-level.ensures ∙ ap level_of c.looked.ensures ∙ ap level_of bytes in
    let e_least = c.root_least.ensures ∙ ap least_of_root e_level in
    let claim = enter (λ p k v l w h. AreReadable p k → g.P.Pages.looked c.look.new.self ≡ p root → AsksOnly (uses form p v root) asked (g.P.Pages.asked c.put_in.new.pages))
    old (g.P.Pages.pages c.look.new.self) count (g.P.Pages.count c.look.new.self) lv c.level-level.result (least_of_root lv) c.root_least.result 0 (low_of form c.all-bounds.result) (256 ^ form.key) (high_of form c.all-bounds.result) read.pages read.count e_level e_least (c.all-bounds.ensures.low form.key) (c.all-bounds.ensures.high form.key) (c.put_in.ensures.own asked read.asked) in
    asks-more (uses form old lv root) (map_uses form old root) asked _ (λ n h. let m = map-uses form old root n some in omega arith) (claim told bytes)

pub returns-in_err-top-clause-no_false_damage : goal.returns-in_err-top-clause-no_false_damage
returns-in_err-top-clause-no_false_damage g c =
    let passed = err_from_is_err_and c.from_residual-in_err-top.result c.from_residual-in_err-top.ensures.1 in
    let form : Form = c.args.form in
    let old : PageMap = g.P.Pages.pages c.args.pages.now in
    let count : ℕ = g.P.Pages.count c.args.pages.now in
    let first : ℕ = g.P.Pages.first c.args.pages.now in
    let root : ℕ = c.args.root in
    let lv : ℕ = level_of (old root) in
    let some = c.requires.root in
    let read = c.in-Ok.ensures in
    let asked : List ℕ = g.P.Pages.asked c.args.pages.now in
    rw (passed.1, passed.2) (λ free kept damage e.
    let map = kept.map in
    let tree = map-tree form old root some map in
    let bytes = read.gives (tree-size form (least_of_root lv) old lv root 0 (256 ^ form.key) tree) in
    let e_level = c.level-level.ensures ∙ ap level_of c.looked.ensures ∙ ap level_of bytes in
    let e_least = c.root_least.ensures ∙ ap least_of_root e_level in
    let once : (n : ℕ) → uses form old lv root n + spare free count n ≤ 1 = λ n. let m = map-uses form old root n some in let o = kept.once n in omega arith in
    let grew = subst (λ (x : ℕ). IsGrown form (least_of_root lv) (view old count x free) (uses form old lv root) (g.P.Pages.pages c.put_in.new.pages) (g.P.Pages.count c.put_in.new.pages) (g.P.Pages.first c.put_in.new.pages) lv root 0 (256 ^ form.key) (put (number c.args.key.now) c.args.value.now (rows_at form old lv root)) c.in_ok-grown.grown.right (number c.put_in.new.middle)) read.first
    (enter (λ p k v l w h. g.P.Pages.looked c.look.new.self ≡ p root → IsTree form l p v root w h → IsSupplied (view p k (g.P.Pages.first c.look.new.self) free) → ((n : ℕ) → uses form p v root n + spare free k n ≤ 1)
    → IsGrown form l (view p k (g.P.Pages.first c.look.new.self) free) (uses form p v root) (g.P.Pages.pages c.put_in.new.pages) (g.P.Pages.count c.put_in.new.pages) (g.P.Pages.first c.put_in.new.pages) v root w h (put (number c.args.key.now) c.args.value.now (rows_at form p v root)) c.in_ok-grown.grown.right (number c.put_in.new.middle))
    old (g.P.Pages.pages c.look.new.self) count (g.P.Pages.count c.look.new.self) lv c.level-level.result (least_of_root lv) c.root_least.result 0 (low_of form c.all-bounds.result) (256 ^ form.key) (high_of form c.all-bounds.result) read.pages read.count e_level e_least (c.all-bounds.ensures.low form.key) (c.all-bounds.ensures.high form.key) (c.in_ok-grown.ensures.grown free) bytes tree (rw read.first kept.supplied) once) in
    absurd (c.grow_root.ensures.no_false_damage grew.free grew.moves.supplied damage (c.in_err-top.was ∙ ap Err (same-fault {T = Rooted} _ _ e))))

pub returns-in_err-top-clause-damaged : goal.returns-in_err-top-clause-damaged
returns-in_err-top-clause-damaged g c =
    let passed = err_from_is_err_and c.from_residual-in_err-top.result c.from_residual-in_err-top.ensures.1 in
    rw (passed.1, passed.2) (λ told damage e. inr (c.grow_root.ensures.damaged damage (c.in_err-top.was ∙ ap Err (same-fault {T = Rooted} _ _ e))))

pub returns-in_err-top-clause-stays : goal.returns-in_err-top-clause-stays
returns-in_err-top-clause-stays g c =
    let passed = err_from_is_err_and c.from_residual-in_err-top.result c.from_residual-in_err-top.ensures.1 in
    rw (passed.1, passed.2) (λ told damage e. inr (c.grow_root.ensures.damaged damage (c.in_err-top.was ∙ ap Err (same-fault {T = Rooted} _ _ e))))

pub returns-in_err-top-clause-own : goal.returns-in_err-top-clause-own
returns-in_err-top-clause-own g c = λ told.
    let form : Form = c.args.form in
    let old : PageMap = g.P.Pages.pages c.args.pages.now in
    let count : ℕ = g.P.Pages.count c.args.pages.now in
    let first : ℕ = g.P.Pages.first c.args.pages.now in
    let root : ℕ = c.args.root in
    let lv : ℕ = level_of (old root) in
    let some = c.requires.root in
    let read = c.in-Ok.ensures in
    let asked : List ℕ = g.P.Pages.asked c.args.pages.now in
    let bytes = read.gives (told-read old count root told (λ u. let f = read.uncounted u in cc)) in
    let e_level = c.level-level.ensures ∙ ap level_of c.looked.ensures ∙ ap level_of bytes in
    let e_least = c.root_least.ensures ∙ ap least_of_root e_level in
    let claim = enter (λ p k v l w h. AreReadable p k → g.P.Pages.looked c.look.new.self ≡ p root → AsksOnly (uses form p v root) asked (g.P.Pages.asked c.put_in.new.pages))
    old (g.P.Pages.pages c.look.new.self) count (g.P.Pages.count c.look.new.self) lv c.level-level.result (least_of_root lv) c.root_least.result 0 (low_of form c.all-bounds.result) (256 ^ form.key) (high_of form c.all-bounds.result) read.pages read.count e_level e_least (c.all-bounds.ensures.low form.key) (c.all-bounds.ensures.high form.key) (c.put_in.ensures.own asked read.asked) in
    subst (λ (x : List ℕ). AsksOnly (map_uses form old root) asked x) (sym c.grow_root.ensures.asked) (asks-more (uses form old lv root) (map_uses form old root) asked _ (λ n h. let m = map-uses form old root n some in omega arith) (claim told bytes))

pub returns-clause-told : goal.returns-clause-told
returns-clause-told g c = λ told.
    let old : PageMap = g.P.Pages.pages c.args.pages.now in
    let count : ℕ = g.P.Pages.count c.args.pages.now in
    let root : ℕ = c.args.root in
    let read = c.in-Ok.ensures in
    let bytes = read.gives (told-read old count root told (λ u. let f = read.uncounted u in cc)) ∙ sym (ap (λ (p : PageMap). p root) read.pages) in
    c.in_ok-top.ensures.told (c.in_ok-grown.ensures.kept (rw (read.pages, read.count) told) bytes).told

pub returns-clause-becomes : goal.returns-clause-becomes
returns-clause-becomes g c = λ free kept.
    let form : Form = c.args.form in
    let old : PageMap = g.P.Pages.pages c.args.pages.now in
    let count : ℕ = g.P.Pages.count c.args.pages.now in
    let first : ℕ = g.P.Pages.first c.args.pages.now in
    let root : ℕ = c.args.root in
    let lv : ℕ = level_of (old root) in
    let some = c.requires.root in
    let read = c.in-Ok.ensures in
    let asked : List ℕ = g.P.Pages.asked c.args.pages.now in
    let map = kept.map in
    let tree = map-tree form old root some map in
    let bytes = read.gives (tree-size form (least_of_root lv) old lv root 0 (256 ^ form.key) tree) in
    let e_level = c.level-level.ensures ∙ ap level_of c.looked.ensures ∙ ap level_of bytes in
    let e_least = c.root_least.ensures ∙ ap least_of_root e_level in
    let once : (n : ℕ) → uses form old lv root n + spare free count n ≤ 1 = λ n. let m = map-uses form old root n some in let o = kept.once n in omega arith in
    let grew = subst (λ (x : ℕ). IsGrown form (least_of_root lv) (view old count x free) (uses form old lv root) (g.P.Pages.pages c.put_in.new.pages) (g.P.Pages.count c.put_in.new.pages) (g.P.Pages.first c.put_in.new.pages) lv root 0 (256 ^ form.key) (put (number c.args.key.now) c.args.value.now (rows_at form old lv root)) c.in_ok-grown.grown.right (number c.put_in.new.middle)) read.first
    (enter (λ p k v l w h. g.P.Pages.looked c.look.new.self ≡ p root → IsTree form l p v root w h → IsSupplied (view p k (g.P.Pages.first c.look.new.self) free) → ((n : ℕ) → uses form p v root n + spare free k n ≤ 1)
    → IsGrown form l (view p k (g.P.Pages.first c.look.new.self) free) (uses form p v root) (g.P.Pages.pages c.put_in.new.pages) (g.P.Pages.count c.put_in.new.pages) (g.P.Pages.first c.put_in.new.pages) v root w h (put (number c.args.key.now) c.args.value.now (rows_at form p v root)) c.in_ok-grown.grown.right (number c.put_in.new.middle))
    old (g.P.Pages.pages c.look.new.self) count (g.P.Pages.count c.look.new.self) lv c.level-level.result (least_of_root lv) c.root_least.result 0 (low_of form c.all-bounds.result) (256 ^ form.key) (high_of form c.all-bounds.result) read.pages read.count e_level e_least (c.all-bounds.ensures.low form.key) (c.all-bounds.ensures.high form.key) (c.in_ok-grown.ensures.grown free) bytes tree (rw read.first kept.supplied) once) in
    let new : PageMap = g.P.Pages.pages c.grow_root.new.pages in
    let rows = put (number c.args.key.now) c.args.value.now (rows_at form old lv root) in
    let mid : View = view (g.P.Pages.pages c.put_in.new.pages) (g.P.Pages.count c.put_in.new.pages) (g.P.Pages.first c.put_in.new.pages) grew.free in
    let up = to-root form (least_of_root lv) (view old count first free) (uses form old lv root) (g.P.Pages.pages c.put_in.new.pages) (g.P.Pages.count c.put_in.new.pages) (g.P.Pages.first c.put_in.new.pages) lv root (256 ^ form.key) c.in_ok-grown.grown.right (number c.put_in.new.middle) rows (omega arith) grew in
    let made = c.in_ok-top.ensures.grown (256 ^ form.key) grew.free
    (subst (λ (k : ℕ). IsFan (IsTree form (half_of form k) (g.P.Pages.pages c.put_in.new.pages) k) 0 (256 ^ form.key) ((0, root) ∷ ((number c.put_in.new.middle, c.in_ok-grown.grown.right) ∷ []))) (sym e_level) up.fan) grew.moves.supplied
    (λ n. let k = up.moves.kept n in let o = once n in
    let e : total (λ (x : ℕ). uses form (g.P.Pages.pages c.put_in.new.pages) c.level-level.result x n) ((0, root) ∷ ((number c.put_in.new.middle, c.in_ok-grown.grown.right) ∷ [])) ≡ total (λ (x : ℕ). uses form (g.P.Pages.pages c.put_in.new.pages) lv x n) ((0, root) ∷ ((number c.put_in.new.middle, c.in_ok-grown.grown.right) ∷ [])) =
    ap (λ (v : ℕ). total (λ (x : ℕ). uses form (g.P.Pages.pages c.put_in.new.pages) v x n) ((0, root) ∷ ((number c.put_in.new.middle, c.in_ok-grown.grown.right) ∷ []))) e_level in
    omega arith) in
    let made' = subst (λ (v : ℕ). IsGrown form 2 mid (λ n. total (λ (x : ℕ). uses form (g.P.Pages.pages c.put_in.new.pages) v x n) ((0, root) ∷ ((number c.put_in.new.middle, c.in_ok-grown.grown.right) ∷ [])))
    new (g.P.Pages.count c.grow_root.new.pages) (g.P.Pages.first c.grow_root.new.pages) (suc v) c.in_ok-top.top 0 (256 ^ form.key) (below_rows form (g.P.Pages.pages c.put_in.new.pages) v ((0, root) ∷ ((number c.put_in.new.middle, c.in_ok-grown.grown.right) ∷ []))) 0 0) e_level made in
    let whole = rooted form (view old count first free) (uses form old lv root) (g.P.Pages.pages c.put_in.new.pages) (g.P.Pages.count c.put_in.new.pages) (g.P.Pages.first c.put_in.new.pages) lv root (256 ^ form.key) c.in_ok-grown.grown.right (number c.put_in.new.middle) rows grew.free
    new (g.P.Pages.count c.grow_root.new.pages) (g.P.Pages.first c.grow_root.new.pages) c.in_ok-top.top up made' in
    let m1 = c.put_in.ensures.frame.count in
    let m2 = c.grow_root.ensures.frame.count in
    subst (HasBecome form (view old count first free) new (g.P.Pages.count c.grow_root.new.pages) (g.P.Pages.first c.grow_root.new.pages) root c.in_ok-top.top) (ap (put (number c.args.key.now) c.args.value.now) (sym (map-rows form old root some)))
    (becomes form (view old count first free) new (g.P.Pages.count c.grow_root.new.pages) (g.P.Pages.first c.grow_root.new.pages) (suc lv) root c.in_ok-top.top 0 (uses form old lv root) rows c.in_ok-top.ensures.some (let e = read.count in omega arith) kept
    (λ n. sym (map-uses form old root n some)) whole)

pub returns-clause-had : goal.returns-clause-had
returns-clause-had g c = λ map.
    let form : Form = c.args.form in
    let old : PageMap = g.P.Pages.pages c.args.pages.now in
    let count : ℕ = g.P.Pages.count c.args.pages.now in
    let first : ℕ = g.P.Pages.first c.args.pages.now in
    let root : ℕ = c.args.root in
    let lv : ℕ = level_of (old root) in
    let some = c.requires.root in
    let read = c.in-Ok.ensures in
    let asked : List ℕ = g.P.Pages.asked c.args.pages.now in
    let tree = map-tree form old root some map in
    let bytes = read.gives (tree-size form (least_of_root lv) old lv root 0 (256 ^ form.key) tree) in
    let e_level = c.level-level.ensures ∙ ap level_of c.looked.ensures ∙ ap level_of bytes in
    let e_least = c.root_least.ensures ∙ ap least_of_root e_level in
    let claim = enter (λ p k v l w h. g.P.Pages.looked c.look.new.self ≡ p root → IsTree form l p v root w h → c.in_ok-grown.grown.had ≡ is_some (lookup (number c.args.key.now) (rows_at form p v root)))
    old (g.P.Pages.pages c.look.new.self) count (g.P.Pages.count c.look.new.self) lv c.level-level.result (least_of_root lv) c.root_least.result 0 (low_of form c.all-bounds.result) (256 ^ form.key) (high_of form c.all-bounds.result) read.pages read.count e_level e_least (c.all-bounds.ensures.low form.key) (c.all-bounds.ensures.high form.key) c.in_ok-grown.ensures.had in
    claim bytes tree ∙ ap (λ x. is_some (lookup (number c.args.key.now) x)) (sym (map-rows form old root some))

pub returns-clause-own : goal.returns-clause-own
returns-clause-own g c = λ told.
    let form : Form = c.args.form in
    let old : PageMap = g.P.Pages.pages c.args.pages.now in
    let count : ℕ = g.P.Pages.count c.args.pages.now in
    let first : ℕ = g.P.Pages.first c.args.pages.now in
    let root : ℕ = c.args.root in
    let lv : ℕ = level_of (old root) in
    let some = c.requires.root in
    let read = c.in-Ok.ensures in
    let asked : List ℕ = g.P.Pages.asked c.args.pages.now in
    let bytes = read.gives (told-read old count root told (λ u. let f = read.uncounted u in cc)) in
    let e_level = c.level-level.ensures ∙ ap level_of c.looked.ensures ∙ ap level_of bytes in
    let e_least = c.root_least.ensures ∙ ap least_of_root e_level in
    let claim = enter (λ p k v l w h. AreReadable p k → g.P.Pages.looked c.look.new.self ≡ p root → AsksOnly (uses form p v root) asked (g.P.Pages.asked c.put_in.new.pages))
    old (g.P.Pages.pages c.look.new.self) count (g.P.Pages.count c.look.new.self) lv c.level-level.result (least_of_root lv) c.root_least.result 0 (low_of form c.all-bounds.result) (256 ^ form.key) (high_of form c.all-bounds.result) read.pages read.count e_level e_least (c.all-bounds.ensures.low form.key) (c.all-bounds.ensures.high form.key) (c.put_in.ensures.own asked read.asked) in
    subst (λ (x : List ℕ). AsksOnly (map_uses form old root) asked x) (sym c.grow_root.ensures.asked) (asks-more (uses form old lv root) (map_uses form old root) asked _ (λ n h. let m = map-uses form old root n some in omega arith) (claim told bytes))

use Rattle.std.proofs.Common.{arith, ◌≡◌, ◌+◌, ◌^◌, ◌<◌, ◌≤◌, ℕ, ◌∙◌, sym, ap, List, subst, refl, Err, Option, None}
use Rattle.std.specs.Option.{is_some}
use Rattle.std.proofs.lemmas.Result.{err_from_is_err_and}
use Rattle.page_face.specs.FreeList.{PageMap}
use Rattle.page_face.specs.Causes.{IsUncounted}
use Rattle.page_face.specs.declared.fault.Damage.{Damage}
use Rattle.page_face.specs.Number.{number}
use Rattle.btree_nodes.proofs.Numbers.{number_below}
use Rattle.btree_nodes.specs.declared.form.Form.{Form}
use Rattle.btree_nodes.specs.Supply.{view, IsSupplied, spare}
use Rattle.btree_nodes.specs.Rows.{lookup, without}
use Rattle.btree_nodes.specs.Nodes.{least_of_root}
use Rattle.btree_nodes.specs.Tree.{IsTree, rows_at, uses, map_rows, map_uses, level_of}
use Rattle.btree_nodes.specs.Damages.{IsDamaged, AreReadable, AsksOnly}
use Rattle.btree_nodes.proofs.Trees.{tree-size}
use Rattle.btree_nodes.proofs.Harms.{asked-here, asks-here, asks-further, asks-more, asks-nothing}
use Rattle.btree_delete.specs.Removal.{HasRemoved, IsOut, IsSame, Lessens}
use Rattle.paged_map.specs.declared.putting.Rooted.{Rooted}
use Rattle.paged_map.specs.Maps.{HasBecome}
use Rattle.btree_nodes.proofs.Walks.{same-fault, told-read, uses-self, asks-read, damage-link, named-refused}
use Rattle.paged_map.proofs.Maps.{enter, map-damage, map-undamaged, kept-counted}
use Rattle.btree_nodes.proofs.Roots.{map-uses}
use Rattle.btree_nodes.proofs.Roots.{map-rows}
use Rattle.btree_nodes.proofs.Roots.{map-tree}
use Rattle.paged_map.proofs.Removes.{without-absent, is-some, stays}
use Rattle.paged_map.proofs.removing.remove_below.Goals as goal

pub remove_in-requires-clause-from : goal.remove_in-requires-clause-from
remove_in-requires-clause-from g c = let z = c.least_key.ensures.least in omega arith

pub remove_in-requires-clause-to : goal.remove_in-requires-clause-to
remove_in-requires-clause-to g c = subst (λ (n : ℕ). number c.args.key.now < 256 ^ n) c.requires.key (number_below c.args.key.now (λ i. let f = c.type_inv.key i in omega arith))

pub remove_in-requires-clause-page : goal.remove_in-requires-clause-page
remove_in-requires-clause-page g c = λ u. let f = c.in_ok-bytes.ensures.uncounted (subst (λ (n : ℕ). IsUncounted n c.args.root) c.in_ok-bytes.ensures.count u) in cc

pub root_after-requires-clause-root : goal.root_after-requires-clause-root
root_after-requires-clause-root g c = λ u. let f = c.in_ok-bytes.ensures.uncounted (subst (λ (n : ℕ). IsUncounted n c.args.root) (c.remove_in.ensures.frame.count ∙ c.in_ok-bytes.ensures.count) u) in cc

pub root_after-requires-clause-left : goal.root_after-requires-clause-left
root_after-requires-clause-left g c =
    let less = subst (λ (o : Option ℕ). Lessens c.args.form c.level-level.result c.root_least.result c.in_ok-bytes.bytes c.remove_in.new.bytes o) c.in-Some.is c.in_ok-removed.ensures.less in
    less.counted

pub returns-in_err-bytes-clause-no_false_damage : goal.returns-in_err-bytes-clause-no_false_damage
returns-in_err-bytes-clause-no_false_damage g c =
    let passed = err_from_is_err_and c.from_residual.result c.from_residual.ensures.1 in
    let form : Form = c.args.form in
    let old : PageMap = g.P.Pages.pages c.args.pages.now in
    let count : ℕ = g.P.Pages.count c.args.pages.now in
    let first : ℕ = g.P.Pages.first c.args.pages.now in
    let root : ℕ = c.args.root in
    let lv : ℕ = level_of (old root) in
    let some = c.requires.root in
    rw (passed.1, passed.2) (λ free kept damage e.
    let d = c.read.ensures.damaged damage (c.in_err-bytes.was ∙ ap Err (same-fault {T = Rooted} _ _ e)) in
    map-undamaged form old count root damage kept.map (kept-counted form (view old count first free) root kept)
    (map-damage form old count root damage some (damage-link form old count damage (least_of_root lv) lv root 0 (256 ^ form.key) d.0 d.1)))

pub returns-in_err-bytes-clause-damaged : goal.returns-in_err-bytes-clause-damaged
returns-in_err-bytes-clause-damaged g c =
    let passed = err_from_is_err_and c.from_residual.result c.from_residual.ensures.1 in
    let form : Form = c.args.form in
    let old : PageMap = g.P.Pages.pages c.args.pages.now in
    let count : ℕ = g.P.Pages.count c.args.pages.now in
    let first : ℕ = g.P.Pages.first c.args.pages.now in
    let root : ℕ = c.args.root in
    let lv : ℕ = level_of (old root) in
    let some = c.requires.root in
    rw (passed.1, passed.2) (λ told damage e.
    let was = c.in_err-bytes.was ∙ ap Err (same-fault {T = Rooted} _ _ e) in
    let d = c.read.ensures.damaged damage was in (
      map-damage form old count root damage some (damage-link form old count damage (least_of_root lv) lv root 0 (256 ^ form.key) d.0 d.1),
      named-refused (g.P.Pages.asked c.args.pages.now) (g.P.Pages.asked c.read.new.self) root c.read.result damage c.read.ensures.asked was (ap (λ (x : Damage). x.page) d.0),
    ))

pub returns-in_err-bytes-clause-stays : goal.returns-in_err-bytes-clause-stays
returns-in_err-bytes-clause-stays g c = λ damage e. c.read.ensures.pages

pub returns-in_err-bytes-clause-own : goal.returns-in_err-bytes-clause-own
returns-in_err-bytes-clause-own g c = λ told.
    let form : Form = c.args.form in
    let old : PageMap = g.P.Pages.pages c.args.pages.now in
    let count : ℕ = g.P.Pages.count c.args.pages.now in
    let first : ℕ = g.P.Pages.first c.args.pages.now in
    let root : ℕ = c.args.root in
    let lv : ℕ = level_of (old root) in
    let some = c.requires.root in
    let asked : List ℕ = g.P.Pages.asked c.args.pages.now in
    let mine : ℕ → ℕ = map_uses form old root in
    let u = uses-self form old lv root in
    let m = map-uses form old root root some in
    subst (λ (x : List ℕ). AsksOnly mine asked x) (sym c.read.ensures.asked) (asks-read mine asked asked root c.read.result (asks-nothing mine asked asked refl) (omega arith))

pub returns-in_err-removed-clause-no_false_damage : goal.returns-in_err-removed-clause-no_false_damage
returns-in_err-removed-clause-no_false_damage g c =
    let passed = err_from_is_err_and c.from_residual-in_err-removed.result c.from_residual-in_err-removed.ensures.1 in
    let form : Form = c.args.form in
    let old : PageMap = g.P.Pages.pages c.args.pages.now in
    let count : ℕ = g.P.Pages.count c.args.pages.now in
    let first : ℕ = g.P.Pages.first c.args.pages.now in
    let root : ℕ = c.args.root in
    let lv : ℕ = level_of (old root) in
    let some = c.requires.root in
    let read = c.in_ok-bytes.ensures in
    let asked : List ℕ = g.P.Pages.asked c.args.pages.now in
    rw (passed.1, passed.2) (λ free kept damage e.
    let map = kept.map in
    let tree = map-tree form old root some map in
    let bytes = read.gives (tree-size form (least_of_root lv) old lv root 0 (256 ^ form.key) tree) in
    let e_level = c.level-level.ensures ∙ ap level_of bytes in
    let e_least = c.root_least.ensures ∙ ap least_of_root e_level in
    let claim = enter (λ f p k v l w. c.in_ok-bytes.bytes ≡ p root → IsTree f l p v root w (256 ^ f.key) → IsDamaged f p k damage l v root w (256 ^ f.key))
    form form old (g.P.Pages.pages c.read.new.self) count (g.P.Pages.count c.read.new.self) lv c.level-level.result (least_of_root lv) c.root_least.result 0 (number c.least_key.result.now) refl read.pages read.count e_level e_least c.least_key.ensures.least (λ a b. c.remove_in.ensures.in_tree a b damage (c.in_err-removed.was ∙ ap Err (same-fault {T = Rooted} _ _ e))) in
    map-undamaged form old count root damage map (kept-counted form (view old count first free) root kept) (map-damage form old count root damage some (claim bytes tree)))

pub returns-in_err-removed-clause-damaged : goal.returns-in_err-removed-clause-damaged
returns-in_err-removed-clause-damaged g c =
    let passed = err_from_is_err_and c.from_residual-in_err-removed.result c.from_residual-in_err-removed.ensures.1 in
    let form : Form = c.args.form in
    let old : PageMap = g.P.Pages.pages c.args.pages.now in
    let count : ℕ = g.P.Pages.count c.args.pages.now in
    let first : ℕ = g.P.Pages.first c.args.pages.now in
    let root : ℕ = c.args.root in
    let lv : ℕ = level_of (old root) in
    let some = c.requires.root in
    let read = c.in_ok-bytes.ensures in
    let asked : List ℕ = g.P.Pages.asked c.args.pages.now in
    rw (passed.1, passed.2) (λ told damage e.
    let was = c.in_err-removed.was ∙ ap Err (same-fault {T = Rooted} _ _ e) in
    let bytes = read.gives (told-read old count root told (λ u. let f = read.uncounted u in cc)) in
    let e_level = c.level-level.ensures ∙ ap level_of bytes in
    let e_least = c.root_least.ensures ∙ ap least_of_root e_level in
    let claim = enter (λ f p k v l w. AreReadable p k → c.in_ok-bytes.bytes ≡ p root → IsDamaged f p k damage l v root w (256 ^ f.key))
    form form old (g.P.Pages.pages c.read.new.self) count (g.P.Pages.count c.read.new.self) lv c.level-level.result (least_of_root lv) c.root_least.result 0 (number c.least_key.result.now) refl read.pages read.count e_level e_least c.least_key.ensures.least (λ a b. c.remove_in.ensures.damaged a b damage was) in
    (map-damage form old count root damage some (claim told bytes), c.remove_in.ensures.named asked (asked-here asked (g.P.Pages.asked c.read.new.self) root read.asked) damage was))

pub returns-in_err-removed-clause-stays : goal.returns-in_err-removed-clause-stays
returns-in_err-removed-clause-stays g c =
    let passed = err_from_is_err_and c.from_residual-in_err-removed.result c.from_residual-in_err-removed.ensures.1 in
    rw (passed.1, passed.2) (λ damage e. c.remove_in.ensures.stays damage (c.in_err-removed.was ∙ ap Err (same-fault {T = Rooted} _ _ e)) ∙ c.in_ok-bytes.ensures.pages)

pub returns-in_err-removed-clause-own : goal.returns-in_err-removed-clause-own
returns-in_err-removed-clause-own g c = λ told.
    let form : Form = c.args.form in
    let old : PageMap = g.P.Pages.pages c.args.pages.now in
    let count : ℕ = g.P.Pages.count c.args.pages.now in
    let first : ℕ = g.P.Pages.first c.args.pages.now in
    let root : ℕ = c.args.root in
    let lv : ℕ = level_of (old root) in
    let some = c.requires.root in
    let read = c.in_ok-bytes.ensures in
    let asked : List ℕ = g.P.Pages.asked c.args.pages.now in
    let bytes = read.gives (told-read old count root told (λ u. let f = read.uncounted u in cc)) in
    let e_level = c.level-level.ensures ∙ ap level_of bytes in
    let e_least = c.root_least.ensures ∙ ap least_of_root e_level in
    let claim = enter (λ f p k v l w. AreReadable p k → c.in_ok-bytes.bytes ≡ p root → AsksOnly (uses f p v root) (g.P.Pages.asked c.read.new.self) (g.P.Pages.asked c.remove_in.new.pages))
    form form old (g.P.Pages.pages c.read.new.self) count (g.P.Pages.count c.read.new.self) lv c.level-level.result (least_of_root lv) c.root_least.result 0 (number c.least_key.result.now) refl read.pages read.count e_level e_least c.least_key.ensures.least c.remove_in.ensures.own in
    let mine : ℕ → ℕ = map_uses form old root in
    let u = uses-self form old lv root in
    let m = map-uses form old root root some in
    let whole = asks-further mine asked (g.P.Pages.asked c.read.new.self) (g.P.Pages.asked c.remove_in.new.pages) (asks-here mine asked (g.P.Pages.asked c.read.new.self) root (omega arith) read.asked)
    (asks-more (uses form old lv root) mine _ _ (λ n h. let e = map-uses form old root n some in omega arith) (claim told bytes)) in
    whole

pub returns-in-None-clause-own : goal.returns-in-None-clause-own
returns-in-None-clause-own g c = λ told.
    let form : Form = c.args.form in
    let old : PageMap = g.P.Pages.pages c.args.pages.now in
    let count : ℕ = g.P.Pages.count c.args.pages.now in
    let first : ℕ = g.P.Pages.first c.args.pages.now in
    let root : ℕ = c.args.root in
    let lv : ℕ = level_of (old root) in
    let some = c.requires.root in
    let read = c.in_ok-bytes.ensures in
    let asked : List ℕ = g.P.Pages.asked c.args.pages.now in
    let bytes = read.gives (told-read old count root told (λ u. let f = read.uncounted u in cc)) in
    let e_level = c.level-level.ensures ∙ ap level_of bytes in
    let e_least = c.root_least.ensures ∙ ap least_of_root e_level in
    let claim = enter (λ f p k v l w. AreReadable p k → c.in_ok-bytes.bytes ≡ p root → AsksOnly (uses f p v root) (g.P.Pages.asked c.read.new.self) (g.P.Pages.asked c.remove_in.new.pages))
    form form old (g.P.Pages.pages c.read.new.self) count (g.P.Pages.count c.read.new.self) lv c.level-level.result (least_of_root lv) c.root_least.result 0 (number c.least_key.result.now) refl read.pages read.count e_level e_least c.least_key.ensures.least c.remove_in.ensures.own in
    let mine : ℕ → ℕ = map_uses form old root in
    let u = uses-self form old lv root in
    let m = map-uses form old root root some in
    let whole = asks-further mine asked (g.P.Pages.asked c.read.new.self) (g.P.Pages.asked c.remove_in.new.pages) (asks-here mine asked (g.P.Pages.asked c.read.new.self) root (omega arith) read.asked)
    (asks-more (uses form old lv root) mine _ _ (λ n h. let e = map-uses form old root n some in omega arith) (claim told bytes)) in
    whole

pub returns-in_err-top-clause-own : goal.returns-in_err-top-clause-own
returns-in_err-top-clause-own g c = λ told.
    let form : Form = c.args.form in
    let old : PageMap = g.P.Pages.pages c.args.pages.now in
    let count : ℕ = g.P.Pages.count c.args.pages.now in
    let first : ℕ = g.P.Pages.first c.args.pages.now in
    let root : ℕ = c.args.root in
    let lv : ℕ = level_of (old root) in
    let some = c.requires.root in
    let read = c.in_ok-bytes.ensures in
    let asked : List ℕ = g.P.Pages.asked c.args.pages.now in
    let bytes = read.gives (told-read old count root told (λ u. let f = read.uncounted u in cc)) in
    let e_level = c.level-level.ensures ∙ ap level_of bytes in
    let e_least = c.root_least.ensures ∙ ap least_of_root e_level in
    let claim = enter (λ f p k v l w. AreReadable p k → c.in_ok-bytes.bytes ≡ p root → AsksOnly (uses f p v root) (g.P.Pages.asked c.read.new.self) (g.P.Pages.asked c.remove_in.new.pages))
    form form old (g.P.Pages.pages c.read.new.self) count (g.P.Pages.count c.read.new.self) lv c.level-level.result (least_of_root lv) c.root_least.result 0 (number c.least_key.result.now) refl read.pages read.count e_level e_least c.least_key.ensures.least c.remove_in.ensures.own in
    let mine : ℕ → ℕ = map_uses form old root in
    let u = uses-self form old lv root in
    let m = map-uses form old root root some in
    let whole = asks-further mine asked (g.P.Pages.asked c.read.new.self) (g.P.Pages.asked c.remove_in.new.pages) (asks-here mine asked (g.P.Pages.asked c.read.new.self) root (omega arith) read.asked)
    (asks-more (uses form old lv root) mine _ _ (λ n h. let e = map-uses form old root n some in omega arith) (claim told bytes)) in
    subst (λ (x : List ℕ). AsksOnly mine asked x) (sym c.root_after.ensures.frame.asked) whole

pub returns-clause-own : goal.returns-clause-own
returns-clause-own g c = λ told.
    let form : Form = c.args.form in
    let old : PageMap = g.P.Pages.pages c.args.pages.now in
    let count : ℕ = g.P.Pages.count c.args.pages.now in
    let first : ℕ = g.P.Pages.first c.args.pages.now in
    let root : ℕ = c.args.root in
    let lv : ℕ = level_of (old root) in
    let some = c.requires.root in
    let read = c.in_ok-bytes.ensures in
    let asked : List ℕ = g.P.Pages.asked c.args.pages.now in
    let bytes = read.gives (told-read old count root told (λ u. let f = read.uncounted u in cc)) in
    let e_level = c.level-level.ensures ∙ ap level_of bytes in
    let e_least = c.root_least.ensures ∙ ap least_of_root e_level in
    let claim = enter (λ f p k v l w. AreReadable p k → c.in_ok-bytes.bytes ≡ p root → AsksOnly (uses f p v root) (g.P.Pages.asked c.read.new.self) (g.P.Pages.asked c.remove_in.new.pages))
    form form old (g.P.Pages.pages c.read.new.self) count (g.P.Pages.count c.read.new.self) lv c.level-level.result (least_of_root lv) c.root_least.result 0 (number c.least_key.result.now) refl read.pages read.count e_level e_least c.least_key.ensures.least c.remove_in.ensures.own in
    let mine : ℕ → ℕ = map_uses form old root in
    let u = uses-self form old lv root in
    let m = map-uses form old root root some in
    let whole = asks-further mine asked (g.P.Pages.asked c.read.new.self) (g.P.Pages.asked c.remove_in.new.pages) (asks-here mine asked (g.P.Pages.asked c.read.new.self) root (omega arith) read.asked)
    (asks-more (uses form old lv root) mine _ _ (λ n h. let e = map-uses form old root n some in omega arith) (claim told bytes)) in
    subst (λ (x : List ℕ). AsksOnly mine asked x) (sym c.root_after.ensures.frame.asked) whole

pub returns-in-None-clause-removed : goal.returns-in-None-clause-removed
returns-in-None-clause-removed g c = λ free kept.
    let form : Form = c.args.form in
    let old : PageMap = g.P.Pages.pages c.args.pages.now in
    let count : ℕ = g.P.Pages.count c.args.pages.now in
    let first : ℕ = g.P.Pages.first c.args.pages.now in
    let root : ℕ = c.args.root in
    let lv : ℕ = level_of (old root) in
    let some = c.requires.root in
    let read = c.in_ok-bytes.ensures in
    let asked : List ℕ = g.P.Pages.asked c.args.pages.now in
    let map = kept.map in
    let tree = map-tree form old root some map in
    let bytes = read.gives (tree-size form (least_of_root lv) old lv root 0 (256 ^ form.key) tree) in
    let e_level = c.level-level.ensures ∙ ap level_of bytes in
    let e_least = c.root_least.ensures ∙ ap least_of_root e_level in
    let once : (n : ℕ) → uses form old lv root n + spare free count n ≤ 1 = λ n. let m = map-uses form old root n some in let o = kept.once n in omega arith in
    let answer = subst (λ (x : ℕ). HasRemoved form (view old count x free) (uses form old lv root) (g.P.Pages.pages c.remove_in.new.pages) (g.P.Pages.count c.remove_in.new.pages) (g.P.Pages.first c.remove_in.new.pages) lv root 0 (256 ^ form.key) (number c.args.key.now) (rows_at form old lv root) c.remove_in.new.bytes c.in_ok-removed.removed) read.first
    (enter (λ f p k v l w. c.in_ok-bytes.bytes ≡ p root → IsTree f l p v root w (256 ^ f.key) → IsSupplied (view p k (g.P.Pages.first c.read.new.self) free) → ((n : ℕ) → uses f p v root n + spare free k n ≤ 1)
    → HasRemoved f (view p k (g.P.Pages.first c.read.new.self) free) (uses f p v root) (g.P.Pages.pages c.remove_in.new.pages) (g.P.Pages.count c.remove_in.new.pages) (g.P.Pages.first c.remove_in.new.pages) v root w (256 ^ f.key) (number c.args.key.now) (rows_at f p v root) c.remove_in.new.bytes c.in_ok-removed.removed)
    form form old (g.P.Pages.pages c.read.new.self) count (g.P.Pages.count c.read.new.self) lv c.level-level.result (least_of_root lv) c.root_least.result 0 (number c.least_key.result.now) refl read.pages read.count e_level e_least c.least_key.ensures.least (c.in_ok-removed.ensures.removed free) bytes tree (rw read.first kept.supplied) once) in
    let done = subst (λ (o : Option ℕ). HasRemoved form (view old count first free) (uses form old lv root) (g.P.Pages.pages c.remove_in.new.pages) (g.P.Pages.count c.remove_in.new.pages) (g.P.Pages.first c.remove_in.new.pages) lv root 0 (256 ^ form.key) (number c.args.key.now) (rows_at form old lv root) c.remove_in.new.bytes o) c.in-None.is answer in
    let same = subst (IsSame (g.P.Pages.pages c.read.new.self) (g.P.Pages.pages c.remove_in.new.pages) (g.P.Pages.first c.read.new.self) (g.P.Pages.first c.remove_in.new.pages)) c.in-None.is c.in_ok-removed.ensures.same in
    let absent : lookup (number c.args.key.now) (map_rows form old root) ≡ None = ap (lookup (number c.args.key.now)) (map-rows form old root some) ∙ done in (
      sym (ap is_some absent),
      subst (HasBecome form (view old count first free) (g.P.Pages.pages c.remove_in.new.pages) (g.P.Pages.count c.remove_in.new.pages) (g.P.Pages.first c.remove_in.new.pages) root root) (sym (without-absent (number c.args.key.now) (map_rows form old root) absent))
          (stays form (view old count first free) (g.P.Pages.pages c.remove_in.new.pages) (g.P.Pages.count c.remove_in.new.pages) (g.P.Pages.first c.remove_in.new.pages) root (same.0 ∙ read.pages) (c.remove_in.ensures.frame.count ∙ read.count) (same.1 ∙ read.first) kept),
    )

pub returns-clause-removed : goal.returns-clause-removed
returns-clause-removed g c = λ free kept.
    let form : Form = c.args.form in
    let old : PageMap = g.P.Pages.pages c.args.pages.now in
    let count : ℕ = g.P.Pages.count c.args.pages.now in
    let first : ℕ = g.P.Pages.first c.args.pages.now in
    let root : ℕ = c.args.root in
    let lv : ℕ = level_of (old root) in
    let some = c.requires.root in
    let read = c.in_ok-bytes.ensures in
    let asked : List ℕ = g.P.Pages.asked c.args.pages.now in
    let map = kept.map in
    let tree = map-tree form old root some map in
    let bytes = read.gives (tree-size form (least_of_root lv) old lv root 0 (256 ^ form.key) tree) in
    let e_level = c.level-level.ensures ∙ ap level_of bytes in
    let e_least = c.root_least.ensures ∙ ap least_of_root e_level in
    let once : (n : ℕ) → uses form old lv root n + spare free count n ≤ 1 = λ n. let m = map-uses form old root n some in let o = kept.once n in omega arith in
    let answer = subst (λ (x : ℕ). HasRemoved form (view old count x free) (uses form old lv root) (g.P.Pages.pages c.remove_in.new.pages) (g.P.Pages.count c.remove_in.new.pages) (g.P.Pages.first c.remove_in.new.pages) lv root 0 (256 ^ form.key) (number c.args.key.now) (rows_at form old lv root) c.remove_in.new.bytes c.in_ok-removed.removed) read.first
    (enter (λ f p k v l w. c.in_ok-bytes.bytes ≡ p root → IsTree f l p v root w (256 ^ f.key) → IsSupplied (view p k (g.P.Pages.first c.read.new.self) free) → ((n : ℕ) → uses f p v root n + spare free k n ≤ 1)
    → HasRemoved f (view p k (g.P.Pages.first c.read.new.self) free) (uses f p v root) (g.P.Pages.pages c.remove_in.new.pages) (g.P.Pages.count c.remove_in.new.pages) (g.P.Pages.first c.remove_in.new.pages) v root w (256 ^ f.key) (number c.args.key.now) (rows_at f p v root) c.remove_in.new.bytes c.in_ok-removed.removed)
    form form old (g.P.Pages.pages c.read.new.self) count (g.P.Pages.count c.read.new.self) lv c.level-level.result (least_of_root lv) c.root_least.result 0 (number c.least_key.result.now) refl read.pages read.count e_level e_least c.least_key.ensures.least (c.in_ok-removed.ensures.removed free) bytes tree (rw read.first kept.supplied) once) in
    let done = subst (λ (o : Option ℕ). HasRemoved form (view old count first free) (uses form old lv root) (g.P.Pages.pages c.remove_in.new.pages) (g.P.Pages.count c.remove_in.new.pages) (g.P.Pages.first c.remove_in.new.pages) lv root 0 (256 ^ form.key) (number c.args.key.now) (rows_at form old lv root) c.remove_in.new.bytes o) c.in-Some.is answer in
    let out = subst (λ (v : ℕ). IsOut form (view old count first free) (uses form old lv root) (g.P.Pages.pages c.remove_in.new.pages) (g.P.Pages.count c.remove_in.new.pages) (g.P.Pages.first c.remove_in.new.pages) v root 0 (256 ^ form.key) (number c.args.key.now) (rows_at form old lv root) c.remove_in.new.bytes c.in-Some.left) (sym e_level) done in
    let made = c.in_ok-top.ensures.becomes (view old count first free) (uses form old lv root) (number c.args.key.now) (rows_at form old lv root) (sym (c.remove_in.ensures.frame.count ∙ read.count)) kept (λ n. sym (map-uses form old root n some)) out in
    let e = map-rows form old root some in (
      is-some (lookup (number c.args.key.now) (map_rows form old root)) (λ none. out.there (ap (lookup (number c.args.key.now)) (sym e) ∙ none)),
      subst (HasBecome form (view old count first free) (g.P.Pages.pages c.root_after.new.pages) (g.P.Pages.count c.root_after.new.pages) (g.P.Pages.first c.root_after.new.pages) root c.in_ok-top.top) (ap (without (number c.args.key.now)) (sym e)) made,
    )

use Rattle.std.proofs.Common.{arith, ◌≡◌, ◌+◌, ◌-◌, ◌*◌, ℕ, List, [], ◌∙◌, sym, ap, subst, Some, None}
use Rattle.std.specs.Option.{is_some}
use Rattle.std.specs.Result.{IfOk}
use Rattle.std.proofs.Math.Nat.{mul-add, mul-suc, mul-zero}
use Rattle.page_face.proofs.Frames.{reads_change, changes_then}
use Rattle.page_face.specs.FreeList.{PageMap, with_page}
use Rattle.page_face.specs.Cells.{IsPlace}
use Rattle.page_face.specs.Nodes.{count_of}
use Rattle.page_face.specs.Number.{number}
use Rattle.page_face.specs.Sound.{IsSound}
use Rattle.btree_nodes.specs.declared.form.Form.{Form}
use Rattle.btree_nodes.specs.Build.{image}
use Rattle.btree_nodes.specs.Rows.{lookup, without}
use Rattle.btree_nodes.specs.Nodes.{rows_in}
use Rattle.btree_nodes.specs.Supply.{view}
use Rattle.btree_nodes.specs.Tree.{map_rows, map_uses}
use Rattle.btree_nodes.specs.Damages.{AsksOnly}
use Rattle.btree_nodes.proofs.Finds.{found, missed}
use Rattle.btree_nodes.proofs.Puts.{without-edit}
use Rattle.btree_nodes.specs.Steps.{low_of, high_of}
use Rattle.paged_map.specs.Edits.{edited}
use Rattle.paged_map.specs.Maps.{HasBecome}
use Rattle.paged_map.specs.declared.editing.Cut.{Cut}
use Rattle.paged_map.specs.declared.putting.Rooted.{Rooted}
use Rattle.paged_map.proofs.Behind.{own-behind, both-behind, kept-behind, claim-behind}
use Rattle.paged_map.proofs.Edits.{IsEdited, edit-leaf, edited-sound, without-leaf, place-looked, some-looked, none-looked}
use Rattle.paged_map.proofs.Leaves.{lookup-leaf}
use Rattle.paged_map.proofs.Removes.{without-absent, stays}
use Rattle.paged_map.proofs.removing.remove_row.Goals as goal

pub returns-in-Err-Damaged-clause-no_false_damage : goal.returns-in-Err-Damaged-clause-no_false_damage
returns-in-Err-Damaged-clause-no_false_damage g c = λ free kept.
    let f = c.in-Err-Damaged.ensures.frame in
    c.remove_below.ensures.no_false_damage free (kept-behind c.args.form c.args.root (g.P.Pages.pages c.args.pages.now) (g.P.Pages.pages c.locate.new.pages) (g.P.Pages.count c.args.pages.now) (g.P.Pages.count c.locate.new.pages)
    (g.P.Pages.first c.args.pages.now) (g.P.Pages.first c.locate.new.pages) free f.pages f.count f.first kept)

pub returns-in-Err-Damaged-clause-damaged : goal.returns-in-Err-Damaged-clause-damaged
returns-in-Err-Damaged-clause-damaged g c = λ told damage e.
    let f = c.in-Err-Damaged.ensures.frame in
    both-behind c.args.form c.args.root (g.P.Pages.pages c.args.pages.now) (g.P.Pages.pages c.locate.new.pages) (g.P.Pages.count c.args.pages.now) (g.P.Pages.count c.locate.new.pages) f.pages f.count
    (g.P.Pages.asked c.args.pages.now) (g.P.Pages.asked c.locate.new.pages) (g.P.Pages.asked c.remove_below.new.pages) c.in-Err-Damaged.ensures.own damage (λ t. c.remove_below.ensures.damaged t damage e) told

pub returns-in-Err-Damaged-clause-stays : goal.returns-in-Err-Damaged-clause-stays
returns-in-Err-Damaged-clause-stays g c = λ damage e. c.remove_below.ensures.stays damage e ∙ c.in-Err-Damaged.ensures.frame.pages

pub returns-in-Err-Damaged-clause-own : goal.returns-in-Err-Damaged-clause-own
returns-in-Err-Damaged-clause-own g c = λ told.
    let f = c.in-Err-Damaged.ensures.frame in
    own-behind c.args.form c.args.root (g.P.Pages.pages c.args.pages.now) (g.P.Pages.pages c.locate.new.pages) (g.P.Pages.count c.args.pages.now) (g.P.Pages.count c.locate.new.pages) f.pages f.count
    (g.P.Pages.asked c.args.pages.now) (g.P.Pages.asked c.locate.new.pages) (g.P.Pages.asked c.remove_below.new.pages) c.in-Err-Damaged.ensures.own c.remove_below.ensures.own told

pub returns-then-spot-eq0-clause-removed : goal.returns-then-spot-eq0-clause-removed
returns-then-spot-eq0-clause-removed g c = λ free kept.
    let form : Form = c.args.form in
    let l = c.in-Ok.ensures.located kept.map in
    let s = c.in-Ok.ensures.shown in
    let f = c.in-Ok.ensures.frame in
    let p = c.spot_of-spot.ensures in
    let n : ℕ = c.in-Ok.leaf.count in
    let at : ℕ = c.spot_of-spot.result.at in
    let gone : ℕ = c.spot_of-spot.result.gone in
    let page : List ℕ = g.P.Pages.looked c.locate.new.pages in
    let old : PageMap = g.P.Pages.pages c.args.pages.now in
    let root : ℕ = c.args.root in
    let key : ℕ = number c.args.key.now in
    let low : ℕ = low_of form c.locate.new.bounds in
    let high : ℕ = high_of form c.locate.new.bounds in
    let place : IsPlace form.key (form.key + form.value) (count_of page) page key at =
    subst (λ (k : ℕ). IsPlace form.key (form.key + form.value) k page key at) s.count (place-looked form page c.looked.result.now c.looked.ensures key n at gone p.place p.some p.none) in
    let none : lookup key (map_rows form old root) ≡ None =
    lookup-leaf form old root c.in-Ok.leaf.least c.in-Ok.leaf.page low high l.1 key s.from s.to
    ∙ ap (λ (x : List ℕ). lookup key (rows_in form x)) (sym l.0)
    ∙ missed form page low high key at place s.within s.from s.to
    (λ h k. none-looked form page c.looked.result.now c.looked.ensures key n at gone p.place p.some p.none (λ (e : gone ≡ 1). absurd (omega arith)) (omega (arith, h, s.count)) k) in (
      sym (ap is_some none),
      subst (HasBecome form (view old (g.P.Pages.count c.args.pages.now) (g.P.Pages.first c.args.pages.now) free) (g.P.Pages.pages c.locate.new.pages) (g.P.Pages.count c.locate.new.pages) (g.P.Pages.first c.locate.new.pages) root root)
          (sym (without-absent key (map_rows form old root) none))
          (stays form (view old (g.P.Pages.count c.args.pages.now) (g.P.Pages.first c.args.pages.now) free) (g.P.Pages.pages c.locate.new.pages) (g.P.Pages.count c.locate.new.pages) (g.P.Pages.first c.locate.new.pages) root f.pages f.count f.first kept),
    )

pub returns-then-leaf-clause-no_false_damage : goal.returns-then-leaf-clause-no_false_damage
returns-then-leaf-clause-no_false_damage g c = λ free kept.
    let f = c.in-Ok.ensures.frame in
    c.remove_below-then-leaf.ensures.no_false_damage free (kept-behind c.args.form c.args.root (g.P.Pages.pages c.args.pages.now) (g.P.Pages.pages c.locate.new.pages) (g.P.Pages.count c.args.pages.now) (g.P.Pages.count c.locate.new.pages)
    (g.P.Pages.first c.args.pages.now) (g.P.Pages.first c.locate.new.pages) free f.pages f.count f.first kept)

pub returns-then-leaf-clause-damaged : goal.returns-then-leaf-clause-damaged
returns-then-leaf-clause-damaged g c = λ told damage e.
    let f = c.in-Ok.ensures.frame in
    both-behind c.args.form c.args.root (g.P.Pages.pages c.args.pages.now) (g.P.Pages.pages c.locate.new.pages) (g.P.Pages.count c.args.pages.now) (g.P.Pages.count c.locate.new.pages) f.pages f.count
    (g.P.Pages.asked c.args.pages.now) (g.P.Pages.asked c.locate.new.pages) (g.P.Pages.asked c.remove_below-then-leaf.new.pages) c.in-Ok.ensures.own damage (λ t. c.remove_below-then-leaf.ensures.damaged t damage e) told

pub returns-then-leaf-clause-stays : goal.returns-then-leaf-clause-stays
returns-then-leaf-clause-stays g c = λ damage e. c.remove_below-then-leaf.ensures.stays damage e ∙ c.in-Ok.ensures.frame.pages

pub returns-then-leaf-clause-own : goal.returns-then-leaf-clause-own
returns-then-leaf-clause-own g c = λ told.
    let f = c.in-Ok.ensures.frame in
    own-behind c.args.form c.args.root (g.P.Pages.pages c.args.pages.now) (g.P.Pages.pages c.locate.new.pages) (g.P.Pages.count c.args.pages.now) (g.P.Pages.count c.locate.new.pages) f.pages f.count
    (g.P.Pages.asked c.args.pages.now) (g.P.Pages.asked c.locate.new.pages) (g.P.Pages.asked c.remove_below-then-leaf.new.pages) c.in-Ok.ensures.own c.remove_below-then-leaf.ensures.own told

pub returns-then-leaf-clause-removed : goal.returns-then-leaf-clause-removed
returns-then-leaf-clause-removed g c = λ free kept.
    let f = c.in-Ok.ensures.frame in
    let form : Form = c.args.form in
    let root : ℕ = c.args.root in
    let key : ℕ = number c.args.key.now in
    let old : PageMap = g.P.Pages.pages c.args.pages.now in
    let middle : PageMap = g.P.Pages.pages c.locate.new.pages in
    let count : ℕ = g.P.Pages.count c.args.pages.now in
    let count' : ℕ = g.P.Pages.count c.locate.new.pages in
    let first : ℕ = g.P.Pages.first c.args.pages.now in
    let first' : ℕ = g.P.Pages.first c.locate.new.pages in
    claim-behind
    (λ p k h. IfOk c.remove_below-then-leaf.result (λ (rooted : Rooted). (rooted.had ≡ is_some (lookup key (map_rows form p root)))
    × HasBecome form (view p k h free) (g.P.Pages.pages c.remove_below-then-leaf.new.pages) (g.P.Pages.count c.remove_below-then-leaf.new.pages) (g.P.Pages.first c.remove_below-then-leaf.new.pages) root rooted.root (without key (map_rows form p root))))
    old middle count count' first first' f.pages f.count f.first
    (c.remove_below-then-leaf.ensures.removed free (kept-behind form root old middle count count' first first' free f.pages f.count f.first kept))

pub returns-in-Err-Damaged-clause-removed : goal.returns-in-Err-Damaged-clause-removed
returns-in-Err-Damaged-clause-removed g c = λ free kept.
    let f = c.in-Err-Damaged.ensures.frame in
    let form : Form = c.args.form in
    let root : ℕ = c.args.root in
    let key : ℕ = number c.args.key.now in
    let old : PageMap = g.P.Pages.pages c.args.pages.now in
    let middle : PageMap = g.P.Pages.pages c.locate.new.pages in
    let count : ℕ = g.P.Pages.count c.args.pages.now in
    let count' : ℕ = g.P.Pages.count c.locate.new.pages in
    let first : ℕ = g.P.Pages.first c.args.pages.now in
    let first' : ℕ = g.P.Pages.first c.locate.new.pages in
    claim-behind
    (λ p k h. IfOk c.remove_below.result (λ (rooted : Rooted). (rooted.had ≡ is_some (lookup key (map_rows form p root)))
    × HasBecome form (view p k h free) (g.P.Pages.pages c.remove_below.new.pages) (g.P.Pages.count c.remove_below.new.pages) (g.P.Pages.first c.remove_below.new.pages) root rooted.root (without key (map_rows form p root))))
    old middle count count' first first' f.pages f.count f.first
    (c.remove_below.ensures.removed free (kept-behind form root old middle count count' first first' free f.pages f.count f.first kept))

pub write_leaf-requires-clause-sound : goal.write_leaf-requires-clause-sound
write_leaf-requires-clause-sound g c =
    let form : Form = c.args.form in
    let s = c.in-Ok.ensures.shown in
    let p = c.spot_of-spot.ensures in
    let n : ℕ = c.in-Ok.leaf.count in
    let at : ℕ = c.spot_of-spot.result.at in
    let gone : ℕ = c.spot_of-spot.result.gone in
    let one : gone ≡ 1 = omega arith in
    let page : List ℕ = g.P.Pages.looked c.locate.new.pages in
    let key : ℕ = number c.args.key.now in
    let low : ℕ = low_of form c.locate.new.bounds in
    let high : ℕ = high_of form c.locate.new.bounds in
    let w : ℕ = form.key + form.value in
    let place = place-looked form page c.looked.result.now c.looked.ensures key n at gone p.place p.some p.none in
    let here = some-looked form page c.looked.result.now c.looked.ensures key n at gone p.place p.some p.none one in
    let until : w * at + w ≡ w * (at + gone) = sym (mul-add w at 1 ∙ omega (arith, mul-suc w 0, mul-zero w)) ∙ ap (λ (k : ℕ). w * (at + k)) (sym one) in
    let made = subst (λ (k : ℕ). IsEdited form c.in-Ok.leaf.least low high (without key) page (image form.map 1 0 (n - 1) (edited (w * n) (w * at) k [] [] page))) until
    (without-leaf form page low high c.in-Ok.leaf.least n at s.sound s.within s.count key s.from s.to place here.0 here.1 (omega arith) s.some) in
    subst (λ (x : Cut). IsSound (record { map = form.map; key = form.key; value = form.value; level = 0 }) (image form.map 1 0 (n - 1) (edited x.size x.from x.until [] [] page)))
    (sym c.cut_of-cut.ensures.is)
    (edited-sound form c.in-Ok.leaf.least low high (without key) page (image form.map 1 0 (n - 1) (edited (w * n) (w * at) (w * (at + gone)) [] [] page)) made)

pub returns-in_err-write_leaf-clause-frame : goal.returns-in_err-write_leaf-clause-frame
returns-in_err-write_leaf-clause-frame g c =
    changes_then g.P.Pages g.met.P.Pages.goes_further _ _ _ (reads_change g.P.Pages _ _ c.in-Ok.ensures.frame) c.write_leaf.ensures.frame

pub returns-clause-frame : goal.returns-clause-frame
returns-clause-frame g c =
    changes_then g.P.Pages g.met.P.Pages.goes_further _ _ _ (reads_change g.P.Pages _ _ c.in-Ok.ensures.frame) c.write_leaf.ensures.frame

pub returns-clause-removed : goal.returns-clause-removed
returns-clause-removed g c = λ free kept.
    let form : Form = c.args.form in
    let l = c.in-Ok.ensures.located kept.map in
    let s = c.in-Ok.ensures.shown in
    let f = c.in-Ok.ensures.frame in
    let p = c.spot_of-spot.ensures in
    let n : ℕ = c.in-Ok.leaf.count in
    let at : ℕ = c.spot_of-spot.result.at in
    let gone : ℕ = c.spot_of-spot.result.gone in
    let one : gone ≡ 1 = omega arith in
    let page : List ℕ = g.P.Pages.looked c.locate.new.pages in
    let old : PageMap = g.P.Pages.pages c.args.pages.now in
    let middle : PageMap = g.P.Pages.pages c.locate.new.pages in
    let new : PageMap = g.P.Pages.pages c.write_leaf.new.pages in
    let root : ℕ = c.args.root in
    let key : ℕ = number c.args.key.now in
    let low : ℕ = low_of form c.locate.new.bounds in
    let high : ℕ = high_of form c.locate.new.bounds in
    let w : ℕ = form.key + form.value in
    let place = place-looked form page c.looked.result.now c.looked.ensures key n at gone p.place p.some p.none in
    let here = some-looked form page c.looked.result.now c.looked.ensures key n at gone p.place p.some p.none one in
    let there : lookup key (map_rows form old root) ≡ Some _ =
    lookup-leaf form old root c.in-Ok.leaf.least c.in-Ok.leaf.page low high l.1 key s.from s.to
    ∙ ap (λ (x : List ℕ). lookup key (rows_in form x)) (sym l.0)
    ∙ found form page low high key at (subst (λ (k : ℕ). IsPlace form.key w k page key at) s.count place) s.within s.from s.to (omega (arith, here.0, s.count)) here.1 in
    let bytes : List ℕ = image form.map 1 0 (n - 1) (edited (w * n) (w * at) (w * (at + gone)) [] [] page) in
    let until : w * at + w ≡ w * (at + gone) = sym (mul-add w at 1 ∙ omega (arith, mul-suc w 0, mul-zero w)) ∙ ap (λ (k : ℕ). w * (at + k)) (sym one) in
    let made = subst (λ (k : ℕ). IsEdited form c.in-Ok.leaf.least low high (without key) page (image form.map 1 0 (n - 1) (edited (w * n) (w * at) k [] [] page))) until
    (without-leaf form page low high c.in-Ok.leaf.least n at s.sound s.within s.count key s.from s.to place here.0 here.1 (omega arith) s.some) in
    let written : new ≡ with_page c.in-Ok.leaf.page bytes old =
    c.in_ok-write_leaf.ensures.written
    ∙ ap (λ (x : Cut). with_page c.in-Ok.leaf.page (image form.map 1 0 (n - 1) (edited x.size x.from x.until [] [] page)) middle) c.cut_of-cut.ensures.is
    ∙ ap (with_page c.in-Ok.leaf.page bytes) f.pages in (
      sym (ap is_some there),
      edit-leaf form old root c.in-Ok.leaf.least c.in-Ok.leaf.page low high key (without key) page bytes free (g.P.Pages.count c.args.pages.now) (g.P.Pages.first c.args.pages.now) new
          (g.P.Pages.count c.write_leaf.new.pages) (g.P.Pages.first c.write_leaf.new.pages) l.1 s.from s.to (without-edit key) l.0 made kept written
          (c.write_leaf.ensures.count ∙ f.count) (c.write_leaf.ensures.first ∙ f.first),
    )

pub returns-in_err-write_leaf-clause-own : goal.returns-in_err-write_leaf-clause-own
returns-in_err-write_leaf-clause-own g c = λ told.
    subst (λ (x : List ℕ). AsksOnly (map_uses c.args.form (g.P.Pages.pages c.args.pages.now) c.args.root) (g.P.Pages.asked c.args.pages.now) x) (sym c.write_leaf.ensures.asked) (c.in-Ok.ensures.own told)

pub returns-clause-own : goal.returns-clause-own
returns-clause-own g c = λ told.
    subst (λ (x : List ℕ). AsksOnly (map_uses c.args.form (g.P.Pages.pages c.args.pages.now) c.args.root) (g.P.Pages.asked c.args.pages.now) x) (sym c.write_leaf.ensures.asked) (c.in-Ok.ensures.own told)

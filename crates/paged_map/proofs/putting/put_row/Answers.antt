use Rattle.std.proofs.Common.{rules, arith, ◌≡◌, ◌+◌, ◌-◌, ◌*◌, ℕ, List, ◌∙◌, sym, ap, subst}
use Rattle.std.specs.Option.{is_some}
use Rattle.page_face.proofs.Frames.{reads_change, changes_then}
use Rattle.page_face.specs.FreeList.{PageMap, with_page}
use Rattle.page_face.specs.Cells.{IsPlace}
use Rattle.page_face.specs.Nodes.{count_of}
use Rattle.page_face.specs.Number.{number}
use Rattle.page_face.specs.Sound.{IsSound}
use Rattle.btree_nodes.specs.declared.form.Form.{Form}
use Rattle.btree_nodes.specs.Build.{image}
use Rattle.btree_nodes.specs.Rows.{lookup, put}
use Rattle.btree_nodes.specs.Nodes.{rows_in}
use Rattle.btree_nodes.specs.Damages.{IsRefusedTake}
use Rattle.btree_nodes.proofs.Puts.{put-edit}
use Rattle.btree_nodes.specs.Steps.{low_of, high_of}
use Rattle.btree_insert.proofs.PutLeaf.{put-had}
use Rattle.paged_map.specs.Edits.{edited}
use Rattle.paged_map.specs.declared.editing.Cut.{Cut}
use Rattle.paged_map.proofs.Behind.{own-behind, refused-behind, kept-behind, stays-behind}
use Rattle.paged_map.proofs.Edits.{edit-leaf, edited-sound, put-leaf, room-fits, place-looked, some-looked, none-looked}
use Rattle.paged_map.proofs.Leaves.{lookup-leaf}
use Rattle.paged_map.proofs.putting.put_row.Goals as goal

pub returns-in-Err-Damaged-clause-no_false_damage : goal.returns-in-Err-Damaged-clause-no_false_damage
returns-in-Err-Damaged-clause-no_false_damage g c = λ free kept.
    let f = c.in-Err-Damaged.ensures.frame in
    c.put_below.ensures.no_false_damage free (kept-behind c.args.form c.args.root (g.P.Pages.pages c.args.pages.now) (g.P.Pages.pages c.locate.new.pages) (g.P.Pages.count c.args.pages.now) (g.P.Pages.count c.locate.new.pages)
    (g.P.Pages.first c.args.pages.now) (g.P.Pages.first c.locate.new.pages) free f.pages f.count f.first kept)

pub returns-in-Err-Damaged-clause-damaged : goal.returns-in-Err-Damaged-clause-damaged
returns-in-Err-Damaged-clause-damaged g c = λ told damage e.
    let f = c.in-Err-Damaged.ensures.frame in
    refused-behind c.args.form c.args.root (g.P.Pages.pages c.args.pages.now) (g.P.Pages.pages c.locate.new.pages) (g.P.Pages.count c.args.pages.now) (g.P.Pages.count c.locate.new.pages) f.pages f.count
    (g.P.Pages.asked c.args.pages.now) (g.P.Pages.asked c.locate.new.pages) (g.P.Pages.asked c.put_below.new.pages) c.in-Err-Damaged.ensures.own damage
    (IsRefusedTake (g.P.Pages.pages c.put_below.new.pages) (g.P.Pages.count c.put_below.new.pages) (g.P.Pages.first c.put_below.new.pages) damage) (λ t. c.put_below.ensures.damaged t damage e) told

pub returns-in-Err-Damaged-clause-stays : goal.returns-in-Err-Damaged-clause-stays
returns-in-Err-Damaged-clause-stays g c = λ told damage e.
    let f = c.in-Err-Damaged.ensures.frame in
    stays-behind (g.P.Pages.pages c.args.pages.now) (g.P.Pages.pages c.locate.new.pages) (g.P.Pages.pages c.put_below.new.pages) (g.P.Pages.count c.args.pages.now) (g.P.Pages.count c.locate.new.pages) (g.P.Pages.count c.put_below.new.pages)
    (IsRefusedTake (g.P.Pages.pages c.put_below.new.pages) (g.P.Pages.count c.put_below.new.pages) (g.P.Pages.first c.put_below.new.pages) damage) f.pages f.count (λ t. c.put_below.ensures.stays t damage e) told

pub returns-in-Err-Damaged-clause-own : goal.returns-in-Err-Damaged-clause-own
returns-in-Err-Damaged-clause-own g c = λ told.
    let f = c.in-Err-Damaged.ensures.frame in
    own-behind c.args.form c.args.root (g.P.Pages.pages c.args.pages.now) (g.P.Pages.pages c.locate.new.pages) (g.P.Pages.count c.args.pages.now) (g.P.Pages.count c.locate.new.pages) f.pages f.count
    (g.P.Pages.asked c.args.pages.now) (g.P.Pages.asked c.locate.new.pages) (g.P.Pages.asked c.put_below.new.pages) c.in-Err-Damaged.ensures.own c.put_below.ensures.own told

pub returns-then-not-has_room-clause-no_false_damage : goal.returns-then-not-has_room-clause-no_false_damage
returns-then-not-has_room-clause-no_false_damage g c = λ free kept.
    let f = c.in-Ok.ensures.frame in
    c.put_below-then-not-has_room.ensures.no_false_damage free (kept-behind c.args.form c.args.root (g.P.Pages.pages c.args.pages.now) (g.P.Pages.pages c.locate.new.pages) (g.P.Pages.count c.args.pages.now) (g.P.Pages.count c.locate.new.pages)
    (g.P.Pages.first c.args.pages.now) (g.P.Pages.first c.locate.new.pages) free f.pages f.count f.first kept)

pub returns-then-not-has_room-clause-damaged : goal.returns-then-not-has_room-clause-damaged
returns-then-not-has_room-clause-damaged g c = λ told damage e.
    let f = c.in-Ok.ensures.frame in
    refused-behind c.args.form c.args.root (g.P.Pages.pages c.args.pages.now) (g.P.Pages.pages c.locate.new.pages) (g.P.Pages.count c.args.pages.now) (g.P.Pages.count c.locate.new.pages) f.pages f.count
    (g.P.Pages.asked c.args.pages.now) (g.P.Pages.asked c.locate.new.pages) (g.P.Pages.asked c.put_below-then-not-has_room.new.pages) c.in-Ok.ensures.own damage
    (IsRefusedTake (g.P.Pages.pages c.put_below-then-not-has_room.new.pages) (g.P.Pages.count c.put_below-then-not-has_room.new.pages) (g.P.Pages.first c.put_below-then-not-has_room.new.pages) damage) (λ t. c.put_below-then-not-has_room.ensures.damaged t damage e) told

pub returns-then-not-has_room-clause-stays : goal.returns-then-not-has_room-clause-stays
returns-then-not-has_room-clause-stays g c = λ told damage e.
    let f = c.in-Ok.ensures.frame in
    stays-behind (g.P.Pages.pages c.args.pages.now) (g.P.Pages.pages c.locate.new.pages) (g.P.Pages.pages c.put_below-then-not-has_room.new.pages) (g.P.Pages.count c.args.pages.now) (g.P.Pages.count c.locate.new.pages) (g.P.Pages.count c.put_below-then-not-has_room.new.pages)
    (IsRefusedTake (g.P.Pages.pages c.put_below-then-not-has_room.new.pages) (g.P.Pages.count c.put_below-then-not-has_room.new.pages) (g.P.Pages.first c.put_below-then-not-has_room.new.pages) damage) f.pages f.count (λ t. c.put_below-then-not-has_room.ensures.stays t damage e) told

pub returns-then-not-has_room-clause-own : goal.returns-then-not-has_room-clause-own
returns-then-not-has_room-clause-own g c = λ told.
    let f = c.in-Ok.ensures.frame in
    own-behind c.args.form c.args.root (g.P.Pages.pages c.args.pages.now) (g.P.Pages.pages c.locate.new.pages) (g.P.Pages.count c.args.pages.now) (g.P.Pages.count c.locate.new.pages) f.pages f.count
    (g.P.Pages.asked c.args.pages.now) (g.P.Pages.asked c.locate.new.pages) (g.P.Pages.asked c.put_below-then-not-has_room.new.pages) c.in-Ok.ensures.own c.put_below-then-not-has_room.ensures.own told

pub write_leaf-requires-clause-fits : goal.write_leaf-requires-clause-fits
write_leaf-requires-clause-fits g c =
    let e = c.cut_of-cut.ensures.is in
    let size = ap (λ (x : Cut). x.size) e in
    let from = ap (λ (x : Cut). x.from) e in
    let until = ap (λ (x : Cut). x.until) e in
    let r = room-fits (c.args.form.key + c.args.form.value) c.in-Ok.leaf.count c.spot_of-spot.result.at c.spot_of-spot.result.gone c.spot_of-spot.ensures.within (c.if-not-has_room.ensures.0 (search rules)) in
    omega (arith, size, from, until, r)

pub write_leaf-requires-clause-sound : goal.write_leaf-requires-clause-sound
write_leaf-requires-clause-sound g c =
    let form : Form = c.args.form in
    let s = c.in-Ok.ensures.shown in
    let p = c.spot_of-spot.ensures in
    let n : ℕ = c.in-Ok.leaf.count in
    let at : ℕ = c.spot_of-spot.result.at in
    let gone : ℕ = c.spot_of-spot.result.gone in
    let page : List ℕ = g.P.Pages.looked c.locate.new.pages in
    let key : List ℕ = c.args.key.now in
    let value : List ℕ = c.args.value.now in
    let w : ℕ = form.key + form.value in
    let made = put-leaf form page (low_of form c.locate.new.bounds) (high_of form c.locate.new.bounds) c.in-Ok.leaf.least n at s.sound s.within s.count key value gone c.requires.key c.requires.value s.from s.to
    (place-looked form page c.looked.result.now c.looked.ensures (number key) n at gone p.place p.some p.none) (some-looked form page c.looked.result.now c.looked.ensures (number key) n at gone p.place p.some p.none)
    (none-looked form page c.looked.result.now c.looked.ensures (number key) n at gone p.place p.some p.none) p.small p.within (c.if-not-has_room.ensures.0 (search rules)) in
    subst (λ (x : Cut). IsSound (record { map = form.map; key = form.key; value = form.value; level = 0 }) (image form.map 1 0 (n + 1 - gone) (edited x.size x.from x.until key value page)))
    (sym c.cut_of-cut.ensures.is)
    (edited-sound form c.in-Ok.leaf.least (low_of form c.locate.new.bounds) (high_of form c.locate.new.bounds) (put (number key) value) page (image form.map 1 0 (n + 1 - gone) (edited (w * n) (w * at) (w * (at + gone)) key value page)) made)

pub returns-in_err-write_leaf-clause-frame : goal.returns-in_err-write_leaf-clause-frame
returns-in_err-write_leaf-clause-frame g c =
    changes_then g.P.Pages g.met.P.Pages.goes_further _ _ _ (reads_change g.P.Pages _ _ c.in-Ok.ensures.frame) c.write_leaf.ensures.frame

pub returns-clause-frame : goal.returns-clause-frame
returns-clause-frame g c =
    changes_then g.P.Pages g.met.P.Pages.goes_further _ _ _ (reads_change g.P.Pages _ _ c.in-Ok.ensures.frame) c.write_leaf.ensures.frame

pub returns-clause-had : goal.returns-clause-had
returns-clause-had g c = λ map.
    let form : Form = c.args.form in
    let l = c.in-Ok.ensures.located map in
    let s = c.in-Ok.ensures.shown in
    let p = c.spot_of-spot.ensures in
    let n : ℕ = c.in-Ok.leaf.count in
    let at : ℕ = c.spot_of-spot.result.at in
    let gone : ℕ = c.spot_of-spot.result.gone in
    let page : List ℕ = g.P.Pages.looked c.locate.new.pages in
    let old : PageMap = g.P.Pages.pages c.args.pages.now in
    let key : ℕ = number c.args.key.now in
    let low : ℕ = low_of form c.locate.new.bounds in
    let high : ℕ = high_of form c.locate.new.bounds in
    let place : IsPlace form.key (form.key + form.value) (count_of page) page key at =
    subst (λ (k : ℕ). IsPlace form.key (form.key + form.value) k page key at) s.count (place-looked form page c.looked.result.now c.looked.ensures key n at gone p.place p.some p.none) in
    put-had form page low high key at gone place s.within s.from s.to
    (λ h. let t = some-looked form page c.looked.result.now c.looked.ensures key n at gone p.place p.some p.none h in (omega (arith, t.0, s.count), t.1))
    (λ h k. none-looked form page c.looked.result.now c.looked.ensures key n at gone p.place p.some p.none h (omega (arith, k, s.count)))
    ∙ ap (λ (x : List ℕ). is_some (lookup key (rows_in form x))) l.0
    ∙ ap is_some (sym (lookup-leaf form old c.args.root c.in-Ok.leaf.least c.in-Ok.leaf.page low high l.1 key s.from s.to))

pub returns-clause-becomes : goal.returns-clause-becomes
returns-clause-becomes g c = λ free kept.
    let form : Form = c.args.form in
    let l = c.in-Ok.ensures.located kept.map in
    let s = c.in-Ok.ensures.shown in
    let f = c.in-Ok.ensures.frame in
    let p = c.spot_of-spot.ensures in
    let n : ℕ = c.in-Ok.leaf.count in
    let at : ℕ = c.spot_of-spot.result.at in
    let gone : ℕ = c.spot_of-spot.result.gone in
    let page : List ℕ = g.P.Pages.looked c.locate.new.pages in
    let old : PageMap = g.P.Pages.pages c.args.pages.now in
    let middle : PageMap = g.P.Pages.pages c.locate.new.pages in
    let new : PageMap = g.P.Pages.pages c.write_leaf.new.pages in
    let value : List ℕ = c.args.value.now in
    let key : ℕ = number c.args.key.now in
    let low : ℕ = low_of form c.locate.new.bounds in
    let high : ℕ = high_of form c.locate.new.bounds in
    let w : ℕ = form.key + form.value in
    let bytes : List ℕ = image form.map 1 0 (n + 1 - gone) (edited (w * n) (w * at) (w * (at + gone)) c.args.key.now value page) in
    let made = put-leaf form page low high c.in-Ok.leaf.least n at s.sound s.within s.count c.args.key.now value gone c.requires.key c.requires.value s.from s.to
    (place-looked form page c.looked.result.now c.looked.ensures key n at gone p.place p.some p.none) (some-looked form page c.looked.result.now c.looked.ensures key n at gone p.place p.some p.none)
    (none-looked form page c.looked.result.now c.looked.ensures key n at gone p.place p.some p.none) p.small p.within (c.if-not-has_room.ensures.0 (search rules)) in
    let written : new ≡ with_page c.in-Ok.leaf.page bytes old =
    c.in_ok-write_leaf.ensures.written
    ∙ ap (λ (x : Cut). with_page c.in-Ok.leaf.page (image form.map 1 0 (n + 1 - gone) (edited x.size x.from x.until c.args.key.now value page)) middle) c.cut_of-cut.ensures.is
    ∙ ap (with_page c.in-Ok.leaf.page bytes) f.pages in
    edit-leaf form old c.args.root c.in-Ok.leaf.least c.in-Ok.leaf.page low high key (put key value) page bytes free (g.P.Pages.count c.args.pages.now) (g.P.Pages.first c.args.pages.now) new
    (g.P.Pages.count c.write_leaf.new.pages) (g.P.Pages.first c.write_leaf.new.pages) l.1 s.from s.to (put-edit key value) l.0 made kept written
    (c.write_leaf.ensures.count ∙ f.count) (c.write_leaf.ensures.first ∙ f.first)

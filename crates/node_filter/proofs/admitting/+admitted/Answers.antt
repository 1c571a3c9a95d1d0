use Rattle.std.proofs.Common.{◌≡◌, ℕ, ◌-◌, ◌∙◌, Bool, not, ◌&&◌, ◌||◌, ap, sym, subst, List, bit_and, rules}
use Rattle.page_face.specs.FreeList.{PageMap}
use Rattle.btree_nodes.specs.Tree.{IsMap}
use Rattle.place_values.specs.declared.query.Expr.{Expr}
use Rattle.rtree_nodes.specs.Stock.{rows_form}
use Rattle.node_rows.specs.Rows.{bytes_in}
use Rattle.node_filter.specs.Masks.{has_slot, Marks}
use Rattle.node_filter.specs.Numbers.{byte_of}
use Rattle.node_filter.specs.Filters.{admits, meets, may_meet}
use Rattle.node_filter.proofs.Rows.{rows-then, rows-ok, rows-refused}
use Rattle.node_filter.proofs.Admissions.{admits-not, admits-or, marks-not, marks-or}
use Rattle.node_filter.proofs.admitting.+admitted.Goals as goal

pub returns-in-Ok-clause-slots : goal.returns-in-Ok-clause-slots
returns-in-Ok-clause-slots g t c = λ map i l.
    let F : ℕ → List ℕ → ℕ = byte_of c.args.ids.now (bytes_in (g.P.Pages.pages c.args.pages.now) c.args.tree.now.rows c.args.node) in
    let one : Expr = c.deref.result.now in
    let case : meets (F i) c.args.filter.now ≡ not (meets (F i) one) = ap (meets (F i)) c.in-Not.is ∙ ap (λ (e : Expr). not (meets (F i) e)) (sym c.deref.ensures) in
    marks-not c.args.used c.in-Ok.left (λ j. admits c.args.level (F j) one) c.in-Ok.ensures.small (c.in-Ok.ensures.slots map) i l
    ∙ ap (λ (b : Bool). has_slot c.args.used i && b) (sym (admits-not c.args.level (F i) c.args.filter.now one c.if-level-gt0.false case))

pub returns-else-left-eq0-clause-rows : goal.returns-else-left-eq0-clause-rows
returns-else-left-eq0-clause-rows g t c = rows-then g.P.Pages g.met.P.Pages.goes_further g.met.P.Pages.reads_further _ _ _ _ _ _ (search rules) c.admitted-in-And.ensures.rows c.admitted-in-And-2.ensures.rows

pub returns-in-Ok-admitted-3-clause-slots : goal.returns-in-Ok-admitted-3-clause-slots
returns-in-Ok-admitted-3-clause-slots g t c = λ map i l.
    let old : PageMap = g.P.Pages.pages c.args.pages.now in
    let F : PageMap → ℕ → List ℕ → ℕ = λ p. byte_of c.args.ids.now (bytes_in p c.args.tree.now.rows c.args.node) in
    let one : Expr = c.deref-in-Or.result.now in
    let other : Expr = c.deref-in-Or-2.result.now in
    let filter : Expr = c.args.filter.now in
    let level : ℕ = c.args.level in
    let left : ℕ = c.in-Ok-admitted-2.left in
    let right : ℕ = c.in-Ok-admitted-3.right in
    let same = c.in-Ok-admitted-2.ensures.rows in
    let there : Marks right (λ j. has_slot (bit_and c.args.used (4294967295 - left)) j && admits level (F old j) other) =
    subst (λ (p : PageMap). IsMap rows_form p c.args.tree.now.rows → Marks right (λ j. has_slot (bit_and c.args.used (4294967295 - left)) j && admits level (F p j) other))
    same.frame.pages c.in-Ok-admitted-3.ensures.slots map in
    let meets_both : meets (F old i) filter ≡ (meets (F old i) one || meets (F old i) other) =
    ap (meets (F old i)) c.in-Or.is ∙ ap (λ (e : Expr). meets (F old i) e || meets (F old i) c.in-Or.other.value) (sym c.deref-in-Or.ensures) ∙ ap (λ (e : Expr). meets (F old i) one || meets (F old i) e) (sym c.deref-in-Or-2.ensures) in
    let may_both : may_meet (F old i) filter ≡ (may_meet (F old i) one || may_meet (F old i) other) =
    ap (may_meet (F old i)) c.in-Or.is ∙ ap (λ (e : Expr). may_meet (F old i) e || may_meet (F old i) c.in-Or.other.value) (sym c.deref-in-Or.ensures) ∙ ap (λ (e : Expr). may_meet (F old i) one || may_meet (F old i) e) (sym c.deref-in-Or-2.ensures) in
    marks-or c.args.used left right (λ j. admits level (F old j) one) (λ j. admits level (F old j) other) c.in-Ok-admitted-2.ensures.small (c.in-Ok-admitted-2.ensures.slots map) there i l
    ∙ ap (λ (b : Bool). has_slot c.args.used i && b) (sym (admits-or level (F old i) filter one other meets_both may_both))

pub returns-in-Ok-admitted-3-clause-rows : goal.returns-in-Ok-admitted-3-clause-rows
returns-in-Ok-admitted-3-clause-rows g t c =
    rows-ok g.P.Pages c.args.tree.now.rows _ _ _ _ (c.in-Ok-admitted-3.ensures.rows.fails.hides_none ∙ c.in-Ok-admitted-2.ensures.rows.fails.hides_none)
    (rows-then g.P.Pages g.met.P.Pages.goes_further g.met.P.Pages.reads_further _ _ _ _ _ _ c.in-Ok-admitted-2.ensures.rows.fails.hides_none c.admitted-in-Or.ensures.rows c.admitted-in-Or-2.ensures.rows)

pub returns-in-Err-admitted-3-clause-rows : goal.returns-in-Err-admitted-3-clause-rows
returns-in-Err-admitted-3-clause-rows g t c =
    rows-then g.P.Pages g.met.P.Pages.goes_further g.met.P.Pages.reads_further _ _ _ _ _ _ c.in-Ok-admitted-2.ensures.rows.fails.hides_none c.admitted-in-Or.ensures.rows
    (rows-refused g.P.Pages c.args.tree.now.rows _ _ _ _ c.in-Err-admitted-3.is c.admitted-in-Or-2.ensures.rows)

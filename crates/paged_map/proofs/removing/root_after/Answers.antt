use Rattle.std.proofs.Common.{arith, ◌≡◌, ◌+◌, ◌-◌, ◌^◌, ◌≤◌, ℕ, [], ◌∷◌, subst, ◌∙◌, sym, suc}
use Rattle.std.proofs.lemmas.Result.{IfOk-weaker}
use Rattle.page_face.specs.FreeList.{PageMap}
use Rattle.btree_nodes.specs.declared.form.Form.{Form}
use Rattle.btree_nodes.specs.Supply.{view, spare}
use Rattle.btree_nodes.specs.Rows.{without}
use Rattle.btree_nodes.specs.Nodes.{half_of}
use Rattle.btree_nodes.specs.Tree.{rows_at, uses}
use Rattle.btree_nodes.proofs.Checks.{least-some}
use Rattle.btree_delete.specs.Mended.{Becomes}
use Rattle.paged_map.specs.Maps.{HasBecome}
use Rattle.paged_map.proofs.Removes.{root-one, emptied, stands, lowered-root}
use Rattle.paged_map.proofs.removing.root_after.Goals as goal

pub returns-then-left-root_least-clause-becomes : goal.returns-then-left-root_least-clause-becomes
returns-then-left-root_least-clause-becomes g c = λ before mine key rows same kept are out.
    stands c.args.form c.args.left before mine (g.P.Pages.pages c.args.pages.now) (g.P.Pages.count c.args.pages.now) (g.P.Pages.first c.args.pages.now) c.args.level c.args.root c.args.root (without key rows) (let e = c.root_least.ensures in omega arith) same kept are (out.some (let s = least-some c.args.level in let e = c.root_least.ensures in omega arith))

pub lower_root-requires-clause-one : goal.lower_root-requires-clause-one
lower_root-requires-clause-one g c =
    let one = root-one c.args.level c.args.left (omega arith) (let e = c.root_least.ensures in omega arith) in
    sym (c.requires.left (omega arith)) ∙ one.0

pub returns-then-left-eq0-clause-becomes : goal.returns-then-left-eq0-clause-becomes
returns-then-left-eq0-clause-becomes g c = λ before mine key rows same kept are out.
    emptied c.args.form before mine (g.P.Pages.pages c.args.pages.now) (g.P.Pages.count c.args.pages.now) (g.P.Pages.first c.args.pages.now) c.args.root (without key rows) same kept are (out.none c.if-left-eq0.true)

pub returns-clause-becomes : goal.returns-clause-becomes
returns-clause-becomes g c = λ before mine key rows same kept are out.
    let form : Form = c.args.form in
    let old : PageMap = g.P.Pages.pages c.args.pages.now in
    let count : ℕ = g.P.Pages.count c.args.pages.now in
    let first : ℕ = g.P.Pages.first c.args.pages.now in
    let root : ℕ = c.args.root in
    let one = root-one c.args.level c.args.left (omega arith) (let e = c.root_least.ensures in omega arith) in
    let l : ℕ = c.args.level - 1 in
    let up : c.args.level ≡ suc l = (let p = one.1 in omega arith) in
    let b : Becomes form 1 before mine old count first (suc l) 0 (256 ^ form.key) (without key rows) ((0, root) ∷ []) =
    subst (λ (v : ℕ). Becomes form 1 before mine old count first v 0 (256 ^ form.key) (without key rows) ((0, root) ∷ [])) up
    (subst (λ (n : ℕ). Becomes form n before mine old count first c.args.level 0 (256 ^ form.key) (without key rows) ((0, root) ∷ [])) one.0 (out.some (omega arith))) in
    let once : (n : ℕ) → uses form old (suc l) root n + spare b.free count n ≤ 1 = λ n. let k = b.moves.kept n in let o = kept.once n in let a = are n in omega arith in
    let fan = b.fan in
    let lowered = c.lower_root.ensures.lowered 0 (256 ^ form.key) l 1 b.free (out.bytes_are (omega arith)) fan.2 b.moves.supplied once in
    let new : PageMap = g.P.Pages.pages c.lower_root.new.pages in
    let count' : ℕ = g.P.Pages.count c.lower_root.new.pages in
    let first' : ℕ = g.P.Pages.first c.lower_root.new.pages in
    IfOk-weaker c.lower_root.result
    (λ top. Becomes form (half_of form l) (view old count first b.free) (uses form old (suc l) root) new count' first' l 0 (256 ^ form.key) (rows_at form old (suc l) root) ((0, top) ∷ []))
    (λ top. HasBecome form before new count' first' root top (without key rows))
    (λ top low. lowered-root form before mine old new count first count' first' l root top root (without key rows) (same ∙ sym c.lower_root.ensures.frame.count) kept are b low) lowered

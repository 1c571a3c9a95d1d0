use Rattle.std.proofs.Common.{arith, ◌≡◌, replicate, ap, ◌∙◌, ◌+◌, List, ℕ, suc, ◌++◌}
use Rattle.std.specs.Int.{to_be_bytes, w32}
use Rattle.std.proofs.lemmas.List.{take_at, length-replicate, take-append-le, length-append}
use Rattle.std.proofs.lemmas.Result.{err_from_is_err_and}
use Rattle.btree_nodes.proofs.Supplies.{take-no_false_damage, refused-same}
use Rattle.btree_nodes.proofs.Tolds.{image_told}
use Rattle.btree_nodes.proofs.Numbers.{number-zeros}
use Rattle.btree_insert.proofs.Keeps.{told-taken}
use Rattle.page_face.specs.Number.{number}
use Rattle.btree_nodes.specs.Build.{image}
use Rattle.page_face.specs.FreeList.{PageMap, with_page}
use Rattle.btree_insert.proofs.Roots.{root_of, root-entries}
use Rattle.btree_insert.proofs.root.grow_root.Goals as goal

pub returns-clause-grown : goal.returns-clause-grown
returns-clause-grown g c = λ high free fan supplied once.
    let k : ℕ = c.args.form.key in
    let bytes : List ℕ = (replicate k 0 ++ to_be_bytes w32 c.args.left) ++ (c.args.middle.now ++ to_be_bytes w32 c.args.right) in
    let t = c.in_ok-root.ensures in
    let taken : PageMap = g.P.Pages.pages c.take.new.self in
    let up : c.args.below + 1 ≡ suc c.args.below = omega arith in
    let z = length-replicate {A = ℕ} k 0 in
    root_of c.args.form (g.P.Pages.pages c.args.pages.now) taken (g.P.Pages.pages c.write_root.new.pages) (g.P.Pages.count c.args.pages.now) (g.P.Pages.count c.take.new.self) (g.P.Pages.first c.args.pages.now) (g.P.Pages.first c.take.new.self) _ _
    c.args.below c.in_ok-root.root high free bytes _ fan supplied once t.counts_one t.takes_free t.others
    (c.in_ok-write_root.ensures.written ∙ ap (λ (n : ℕ). with_page c.in_ok-root.root (image c.args.form.map 2 n 2 bytes) taken) up)
    c.in_ok-write_root.ensures.frame.count c.in_ok-write_root.ensures.first
    (omega (arith, length-append (replicate k 0 ++ to_be_bytes w32 c.args.left) (c.args.middle.now ++ to_be_bytes w32 c.args.right), length-append (replicate k 0) (to_be_bytes w32 c.args.left), length-append c.args.middle.now (to_be_bytes w32 c.args.right), c.requires.middle, z))
    (ap number (take-append-le k (replicate k 0 ++ to_be_bytes w32 c.args.left) (c.args.middle.now ++ to_be_bytes w32 c.args.right) (omega (arith, length-append (replicate k 0) (to_be_bytes w32 c.args.left), z)) ∙ take_at (replicate k 0) (to_be_bytes w32 c.args.left) k z) ∙ number-zeros k)
    (root-entries c.args.form c.args.middle.now c.args.left c.args.right c.requires.middle (omega arith) (omega arith))

pub returns-in_err-root-clause-no_false_damage : goal.returns-in_err-root-clause-no_false_damage
returns-in_err-root-clause-no_false_damage g c =
    let passed = err_from_is_err_and c.from_residual.result c.from_residual.ensures.1 in
    rw (passed.1, passed.2) (λ free supplied damage e. take-no_false_damage (g.P.Pages.pages c.args.pages.now) (g.P.Pages.count c.args.pages.now) (g.P.Pages.first c.args.pages.now) free damage supplied
    (c.take.ensures.damaged damage (c.in_err-root.was ∙ e)))

pub returns-in_err-root-clause-damaged : goal.returns-in_err-root-clause-damaged
returns-in_err-root-clause-damaged g c =
    let passed = err_from_is_err_and c.from_residual.result c.from_residual.ensures.1 in
    let kept = c.in_err-root.ensures.kept in
    rw (passed.1, passed.2) (λ damage e. refused-same (g.P.Pages.pages c.args.pages.now) (g.P.Pages.pages c.take.new.self) (g.P.Pages.count c.args.pages.now) (g.P.Pages.count c.take.new.self)
    (g.P.Pages.first c.args.pages.now) (g.P.Pages.first c.take.new.self) damage kept.0 kept.1 kept.2 (c.take.ensures.damaged damage (c.in_err-root.was ∙ e)))

pub returns-clause-told : goal.returns-clause-told
returns-clause-told g c = λ told.
    let t = c.in_ok-root.ensures in
    let w = c.in_ok-write_root.ensures in
    told-taken (g.P.Pages.pages c.args.pages.now) (g.P.Pages.pages c.take.new.self) (g.P.Pages.pages c.write_root.new.pages) (g.P.Pages.count c.args.pages.now) (g.P.Pages.count c.take.new.self) (g.P.Pages.count c.write_root.new.pages)
    (g.P.Pages.first c.args.pages.now) (g.P.Pages.first c.take.new.self) c.in_ok-root.root _ told t.counts_one (λ h. let f = t.takes_free h in (f.0, f.1)) t.others w.written w.frame.count (image_told _ _ _ _ _)

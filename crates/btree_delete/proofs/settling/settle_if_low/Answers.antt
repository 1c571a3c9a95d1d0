use Rattle.std.proofs.Common.{arith, ◌+◌, refl, subst, Option}
use Rattle.page_face.specs.FreeList.{PageMap}
use Rattle.btree_nodes.specs.Nodes.{entries_in}
use Rattle.btree_nodes.specs.Tree.{with_low}
use Rattle.btree_delete.specs.Looks.{HasLooked, HasBeside}
use Rattle.btree_delete.specs.declared.settling.Beside.{Beside}
use Rattle.btree_delete.proofs.Settles.{kept-becomes, fan-whole}
use Rattle.btree_delete.proofs.settling.settle_if_low.Goals as goal

pub returns-in-None-clause-becomes : goal.returns-in-None-clause-becomes
returns-in-None-clause-becomes g c = λ low high free inner is child-is beside-is left-count low-child supplied once.
    let old : PageMap = g.P.Pages.pages c.args.pages.now in
    let looked = subst (λ (o : Option Beside). HasLooked c.args.form (g.P.Pages.count c.args.pages.now) c.args.below c.args.bytes.now c.args.found.at c.args.found.count (c.args.left + 1) o) c.in-None.is c.requires.looked in
    kept-becomes c.args.form old (g.P.Pages.count c.args.pages.now) (g.P.Pages.first c.args.pages.now) (g.P.Pages.count c.args.pages.now) (g.P.Pages.first c.args.pages.now) c.args.below c.args.page low high c.args.found.count free c.args.bytes.now old refl refl refl
    inner is c.requires.count (fan-whole c.args.form old c.args.below low high c.args.found.at c.args.left (with_low low (entries_in c.args.form c.args.bytes.now)) low-child (omega (arith, looked))) supplied

pub returns-in_ok-entries-in-Some-clause-becomes : goal.returns-in_ok-entries-in-Some-clause-becomes
returns-in_ok-entries-in-Some-clause-becomes g c = λ low high free inner is child-is beside-is left-count low-child supplied once.
    let old : PageMap = g.P.Pages.pages c.args.pages.now in
    let looked = subst (λ (o : Option Beside). HasLooked c.args.form (g.P.Pages.count c.args.pages.now) c.args.below c.args.bytes.now c.args.found.at c.args.found.count (c.args.left + 1) o) c.in-Some.is c.requires.looked in
    let bytes-are = subst (λ (o : Option Beside). HasBeside c.args.form old c.args.bytes.now o) c.in-Some.is beside-is in
    c.in_ok-entries-in-Some.ensures.becomes low high free inner is child-is bytes-are left-count looked.count_is low-child supplied once

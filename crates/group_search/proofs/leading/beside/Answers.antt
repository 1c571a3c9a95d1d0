use Rattle.std.proofs.Common.{◌≡◌, ◌≤◌, ◌∷◌, [], Bool, List, Vec, Global, sym, subst}
use Rattle.std.proofs.lemmas.Result.{IfOk-weaker}
use Rattle.std.specs.List.{filter}
use Rattle.spatial_base.specs.Point.{distance}
use Rattle.place_values.specs.declared.query.Pick.{Pick}
use Rattle.group_search.specs.Blocks.{block_picks}
use Rattle.group_search.specs.Choices.{IsCut}
use Rattle.group_search.specs.Joins.{may_join}
use Rattle.group_search.specs.Leads.{IsPaired}
use Rattle.group_search.specs.Picks.{AreNear, AreMeasured}
use Rattle.group_search.proofs.Blocks.{joins-paired, own-paired, blocks-near, blocks-measured}
use Rattle.group_search.proofs.Joins.{filter-all}
use Rattle.group_search.proofs.leading.beside.Goals as goal

pub returns-then-is_own-clause-cut : goal.returns-then-is_own-clause-cut
returns-then-is_own-clause-cut c =
    let at = c.args.at.now in
    let anchor : Pick = c.args.anchor.now in
    let counts : Pick → Type 0 = IsPaired at anchor c.args.most in
    rw c.if-is_own.true
    (IfOk-weaker c.alone.result (λ (picks : Vec Pick Global). picks.items ≡ anchor ∷ []) (λ (picks : Vec Pick Global). IsCut counts (anchor ∷ []) picks.items)
    (λ picks is. subst (IsCut counts (anchor ∷ [])) (sym is) (own-paired at anchor c.args.most)) c.alone.ensures)

pub returns-clause-cut : goal.returns-clause-cut
returns-clause-cut c =
    let at = c.args.at.now in
    let anchor : Pick = c.args.anchor.now in
    let most = c.args.most in
    let blocks = c.args.blocks.now in
    let all : List Pick = block_picks blocks in
    let test : Pick → Bool = may_join at.scale most anchor in
    let counts : Pick → Type 0 = IsPaired at anchor most in
    rw c.if-is_own.false
    (IfOk-weaker c.paired.result (λ (picks : Vec Pick Global). picks.items ≡ filter test all) (λ (picks : Vec Pick Global). IsCut counts all picks.items)
    (λ picks is. subst (IsCut counts all) (sym is) (joins-paired at anchor most all c.requires.anchor_measured (blocks-measured at blocks c.requires.blocks))) c.paired.ensures)

pub returns-clause-near : goal.returns-clause-near
returns-clause-near c =
    let at = c.args.at.now in
    let blocks = c.args.blocks.now in
    let all : List Pick = block_picks blocks in
    let test : Pick → Bool = may_join at.scale c.args.most c.args.anchor.now in
    IfOk-weaker c.paired.result (λ (picks : Vec Pick Global). picks.items ≡ filter test all) (λ (picks : Vec Pick Global). AreNear picks.items)
    (λ picks is. subst AreNear (sym is) (filter-all (λ (pick : Pick). pick.dist ≤ 2545584412) test all (blocks-near at blocks c.requires.blocks))) c.paired.ensures

pub returns-clause-measured : goal.returns-clause-measured
returns-clause-measured c =
    let at = c.args.at.now in
    let blocks = c.args.blocks.now in
    let all : List Pick = block_picks blocks in
    let test : Pick → Bool = may_join at.scale c.args.most c.args.anchor.now in
    IfOk-weaker c.paired.result (λ (picks : Vec Pick Global). picks.items ≡ filter test all) (λ (picks : Vec Pick Global). AreMeasured at picks.items)
    (λ picks is. subst (AreMeasured at) (sym is) (filter-all (λ (pick : Pick). pick.dist ≡ distance at pick.point) test all (blocks-measured at blocks c.requires.blocks))) c.paired.ensures

use Rattle.std.proofs.Common.{arith, ◌≡◌, ◌+◌, ◌-◌, ◌*◌, ◌<◌, ◌≤◌, ℕ, ◌∙◌, sym, ap, length, List, subst, Option, refl, suc, Err, Bool, IsTrue}
use Rattle.std.specs.Result.{IfOk}
use Rattle.std.proofs.lemmas.Result.{err_from_is_err_and}
use Rattle.page_face.specs.FreeList.{PageMap}
use Rattle.page_face.specs.declared.fault.Damage.{Damage}
use Rattle.page_face.specs.Number.{number}
use Rattle.btree_nodes.specs.Supply.{view, spare, one_at}
use Rattle.btree_nodes.specs.Rows.{lookup}
use Rattle.page_face.specs.Nodes.{count_of}
use Rattle.btree_nodes.specs.Nodes.{width_of, least_of_root, rows_in}
use Rattle.btree_nodes.specs.Tree.{IsTree, rows_at, uses}
use Rattle.btree_nodes.specs.Bounds.{upper_of, child_of}
use Rattle.btree_nodes.specs.Damages.{IsDamaged, AreReadable, AskedSince, AsksOnly}
use Rattle.std.proofs.Math.Nat.{mul-le-mul_left}
use Rattle.page_face.specs.Causes.{IsUncounted}
use Rattle.btree_nodes.proofs.Trees.{tree-size}
use Rattle.btree_nodes.proofs.Harms.{asked-from, asks-here, asks-keep, asks-nothing}
use Rattle.page_face.proofs.Frames.{takes_none_then, writes_take_none}
use Rattle.btree_delete.specs.Removal.{HasRemoved, Lessens, IsOut, IsLess}
use Rattle.btree_delete.specs.Mended.{IsBeside}
use Rattle.btree_delete.proofs.Settles.{half_some}
use Rattle.btree_delete.proofs.Rises.{rise, child-claim}
use Rattle.btree_nodes.proofs.Walks.{same-fault, told-read, uses-self, asks-read, damage-link, uses-below, tree-below, damage-below, lookup-below, named-refused}
use Rattle.btree_delete.proofs.Walks.{read-looked, uses-most, asked-child, beside-is, own-looked, own-below, damage-looked, damage-in_tree}
use Rattle.btree_delete.proofs.remove.+remove_in.Goals as goal

pub returns-then-level-eq0-clause-removed : goal.returns-then-level-eq0-clause-removed
returns-then-level-eq0-clause-removed g t c = λ free is tree supplied once.
    let form = c.args.form in
    let page : ℕ = c.args.page in
    let old : PageMap = g.P.Pages.pages c.args.pages.now in
    let count : ℕ = g.P.Pages.count c.args.pages.now in
    let first : ℕ = g.P.Pages.first c.args.pages.now in
    let new : PageMap = g.P.Pages.pages c.remove_leaf.new.pages in
    let count' : ℕ = g.P.Pages.count c.remove_leaf.new.pages in
    let first' : ℕ = g.P.Pages.first c.remove_leaf.new.pages in
    let lo : ℕ = number c.args.low.now in
    let hi : ℕ = upper_of form.key c.args.high.now in
    let key : ℕ = number c.args.key.now in
    let z : c.args.level ≡ 0 = c.if-level-eq0.true in
    let once' : (n : ℕ) → one_at page n + spare free count n ≤ 1 = subst (λ (k : ℕ). (n : ℕ) → uses form old k page n + spare free count n ≤ 1) z once in
    subst (λ (k : ℕ). IfOk c.remove_leaf.result (HasRemoved form (view old count first free) (uses form old k page) new count' first' k page lo hi key (rows_at form old k page) c.remove_leaf.new.bytes)) (sym z)
    (subst (λ (b : List ℕ). IfOk c.remove_leaf.result (HasRemoved form (view old count first free) (one_at page) new count' first' 0 page lo hi key (rows_in form b) c.remove_leaf.new.bytes)) is
    (c.remove_leaf.ensures.removed free is supplied once'))

pub returns-then-level-eq0-clause-named : goal.returns-then-level-eq0-clause-named
returns-then-level-eq0-clause-named g t c = λ before asked damage e.
    let d = c.remove_leaf.ensures.damaged damage e in
    subst (λ (x : List ℕ). AskedSince before x damage.page) (sym c.remove_leaf.ensures.frame.asked) (subst (λ (p : ℕ). AskedSince before (g.P.Pages.asked c.args.pages.now) p) (sym d.0) asked)

-- the child can't be read
pub returns-in_err-below-clause-damaged : goal.returns-in_err-below-clause-damaged
returns-in_err-below-clause-damaged g t c =
    let old : PageMap = g.P.Pages.pages c.args.pages.now in
    let form = c.args.form in
    let page : ℕ = c.args.page in
    let l : ℕ = c.args.level - 1 in
    let up : c.args.level ≡ suc l = omega arith in
    let at : ℕ = c.in-Ok.found.at in
    let w = c.in-Ok.ensures.within in
    let small : at < count_of c.args.bytes.now = omega arith in
    let child : ℕ = c.child_at-child.result in
    let e = c.child_at-child.ensures in
    let lo : ℕ = number c.args.low.now in
    let hi : ℕ = upper_of form.key c.args.high.now in
    let count : ℕ = g.P.Pages.count c.args.pages.now in
    let a0 : List ℕ = g.P.Pages.asked c.args.pages.now in
    let a1 : List ℕ = g.P.Pages.asked c.read.new.self in
    let passed = err_from_is_err_and c.from_residual.result c.from_residual.ensures.1 in
    rw (passed.1, passed.2) (λ told is damage r.
    let d = c.read.ensures.damaged damage (c.in_err-below.was ∙ ap Err (same-fault {T = Option ℕ} _ _ r)) in
    damage-below form old c.args.bytes.now c.args.level l page at up is small count damage c.args.least _ lo hi _ _ child refl refl refl e
    (damage-link form old count damage _ l child _ _ d.0 d.1))

pub returns-in_err-below-clause-in_tree : goal.returns-in_err-below-clause-in_tree
returns-in_err-below-clause-in_tree g t c =
    let old : PageMap = g.P.Pages.pages c.args.pages.now in
    let form = c.args.form in
    let page : ℕ = c.args.page in
    let l : ℕ = c.args.level - 1 in
    let up : c.args.level ≡ suc l = omega arith in
    let at : ℕ = c.in-Ok.found.at in
    let w = c.in-Ok.ensures.within in
    let small : at < count_of c.args.bytes.now = omega arith in
    let child : ℕ = c.child_at-child.result in
    let e = c.child_at-child.ensures in
    let lo : ℕ = number c.args.low.now in
    let hi : ℕ = upper_of form.key c.args.high.now in
    let count : ℕ = g.P.Pages.count c.args.pages.now in
    let a0 : List ℕ = g.P.Pages.asked c.args.pages.now in
    let a1 : List ℕ = g.P.Pages.asked c.read.new.self in
    let passed = err_from_is_err_and c.from_residual.result c.from_residual.ensures.1 in
    rw (passed.1, passed.2) (λ is tree damage r.
    let d = c.read.ensures.damaged damage (c.in_err-below.was ∙ ap Err (same-fault {T = Option ℕ} _ _ r)) in
    damage-below form old c.args.bytes.now c.args.level l page at up is small count damage c.args.least _ lo hi _ _ child refl refl refl e
    (damage-link form old count damage _ l child _ _ d.0 d.1))

pub returns-in_err-below-clause-named : goal.returns-in_err-below-clause-named
returns-in_err-below-clause-named g t c =
    let passed = err_from_is_err_and c.from_residual.result c.from_residual.ensures.1 in
    rw (passed.1, passed.2) (λ before asked damage r.
    let was = c.in_err-below.was ∙ ap Err (same-fault {T = Option ℕ} _ _ r) in
    asked-from before (g.P.Pages.asked c.args.pages.now) (g.P.Pages.asked c.read.new.self) c.args.page damage.page asked
    (named-refused (g.P.Pages.asked c.args.pages.now) (g.P.Pages.asked c.read.new.self) c.child_at-child.result c.read.result damage c.read.ensures.asked was (ap (λ (d : Damage). d.page) (c.read.ensures.damaged damage was).0)))

pub returns-in_err-below-clause-own : goal.returns-in_err-below-clause-own
returns-in_err-below-clause-own g t c = λ told is.
    let old : PageMap = g.P.Pages.pages c.args.pages.now in
    let form = c.args.form in
    let page : ℕ = c.args.page in
    let l : ℕ = c.args.level - 1 in
    let up : c.args.level ≡ suc l = omega arith in
    let at : ℕ = c.in-Ok.found.at in
    let w = c.in-Ok.ensures.within in
    let small : at < count_of c.args.bytes.now = omega arith in
    let child : ℕ = c.child_at-child.result in
    let e = c.child_at-child.ensures in
    let lo : ℕ = number c.args.low.now in
    let hi : ℕ = upper_of form.key c.args.high.now in
    let count : ℕ = g.P.Pages.count c.args.pages.now in
    let a0 : List ℕ = g.P.Pages.asked c.args.pages.now in
    let a1 : List ℕ = g.P.Pages.asked c.read.new.self in
    let mine : ℕ → ℕ = uses form old c.args.level page in
    let u = uses-below form old c.args.bytes.now c.args.level l page at up is small child child e (uses-self form old l child) in
    subst (λ (x : List ℕ). AsksOnly mine a0 x) (sym c.read.ensures.asked) (asks-read mine a0 a0 child c.read.result (asks-nothing mine a0 a0 refl) u)

-- nor its neighbour
pub returns-in_err-beside-clause-damaged : goal.returns-in_err-beside-clause-damaged
returns-in_err-beside-clause-damaged g t c =
    let old : PageMap = g.P.Pages.pages c.args.pages.now in
    let form = c.args.form in
    let page : ℕ = c.args.page in
    let l : ℕ = c.args.level - 1 in
    let up : c.args.level ≡ suc l = omega arith in
    let at : ℕ = c.in-Ok.found.at in
    let w = c.in-Ok.ensures.within in
    let small : at < count_of c.args.bytes.now = omega arith in
    let child : ℕ = c.child_at-child.result in
    let e = c.child_at-child.ensures in
    let lo : ℕ = number c.args.low.now in
    let hi : ℕ = upper_of form.key c.args.high.now in
    let count : ℕ = g.P.Pages.count c.args.pages.now in
    let a0 : List ℕ = g.P.Pages.asked c.args.pages.now in
    let a1 : List ℕ = g.P.Pages.asked c.read.new.self in
    let read = c.in_ok-below.ensures in
    let passed = err_from_is_err_and c.from_residual-in_err-beside.result c.from_residual-in_err-beside.ensures.1 in
    rw (passed.1, passed.2) (λ told is damage r.
    let was = c.in_err-beside.was ∙ ap Err (same-fault {T = Option ℕ} _ _ r) in
    damage-looked form old (g.P.Pages.pages c.read.new.self) count (g.P.Pages.count c.read.new.self) c.args.level l page c.args.least lo hi c.args.bytes.now damage up read.pages read.count told is
    (λ a b. c.look_if_low.ensures.damaged page c.args.least a b damage was))

pub returns-in_err-beside-clause-in_tree : goal.returns-in_err-beside-clause-in_tree
returns-in_err-beside-clause-in_tree g t c =
    let old : PageMap = g.P.Pages.pages c.args.pages.now in
    let form = c.args.form in
    let page : ℕ = c.args.page in
    let l : ℕ = c.args.level - 1 in
    let up : c.args.level ≡ suc l = omega arith in
    let at : ℕ = c.in-Ok.found.at in
    let w = c.in-Ok.ensures.within in
    let small : at < count_of c.args.bytes.now = omega arith in
    let child : ℕ = c.child_at-child.result in
    let e = c.child_at-child.ensures in
    let lo : ℕ = number c.args.low.now in
    let hi : ℕ = upper_of form.key c.args.high.now in
    let count : ℕ = g.P.Pages.count c.args.pages.now in
    let a0 : List ℕ = g.P.Pages.asked c.args.pages.now in
    let a1 : List ℕ = g.P.Pages.asked c.read.new.self in
    let read = c.in_ok-below.ensures in
    let passed = err_from_is_err_and c.from_residual-in_err-beside.result c.from_residual-in_err-beside.ensures.1 in
    rw (passed.1, passed.2) (λ is tree damage r.
    let was = c.in_err-beside.was ∙ ap Err (same-fault {T = Option ℕ} _ _ r) in
    damage-in_tree form old (g.P.Pages.pages c.read.new.self) count (g.P.Pages.count c.read.new.self) c.args.level l page c.args.least lo hi c.args.bytes.now damage up read.pages read.count is tree
    (λ a b. c.look_if_low.ensures.in_tree page c.args.least a b damage was))

pub returns-in_err-beside-clause-named : goal.returns-in_err-beside-clause-named
returns-in_err-beside-clause-named g t c =
    let old : PageMap = g.P.Pages.pages c.args.pages.now in
    let form = c.args.form in
    let page : ℕ = c.args.page in
    let l : ℕ = c.args.level - 1 in
    let up : c.args.level ≡ suc l = omega arith in
    let at : ℕ = c.in-Ok.found.at in
    let w = c.in-Ok.ensures.within in
    let small : at < count_of c.args.bytes.now = omega arith in
    let child : ℕ = c.child_at-child.result in
    let e = c.child_at-child.ensures in
    let lo : ℕ = number c.args.low.now in
    let hi : ℕ = upper_of form.key c.args.high.now in
    let count : ℕ = g.P.Pages.count c.args.pages.now in
    let a0 : List ℕ = g.P.Pages.asked c.args.pages.now in
    let a1 : List ℕ = g.P.Pages.asked c.read.new.self in
    let read = c.in_ok-below.ensures in
    let passed = err_from_is_err_and c.from_residual-in_err-beside.result c.from_residual-in_err-beside.ensures.1 in
    rw (passed.1, passed.2) (λ before asked damage r.
    let was = c.in_err-beside.was ∙ ap Err (same-fault {T = Option ℕ} _ _ r) in
    asked-from before a1 (g.P.Pages.asked c.look_if_low.new.pages) page damage.page
    (asks-keep (λ _. 1) a0 a1 (asks-here (λ _. 1) a0 a1 child (omega arith) read.asked) before page asked) (c.look_if_low.ensures.named damage was))

pub returns-in_err-beside-clause-own : goal.returns-in_err-beside-clause-own
returns-in_err-beside-clause-own g t c = λ told is.
    let old : PageMap = g.P.Pages.pages c.args.pages.now in
    let form = c.args.form in
    let page : ℕ = c.args.page in
    let l : ℕ = c.args.level - 1 in
    let up : c.args.level ≡ suc l = omega arith in
    let at : ℕ = c.in-Ok.found.at in
    let w = c.in-Ok.ensures.within in
    let small : at < count_of c.args.bytes.now = omega arith in
    let child : ℕ = c.child_at-child.result in
    let e = c.child_at-child.ensures in
    let lo : ℕ = number c.args.low.now in
    let hi : ℕ = upper_of form.key c.args.high.now in
    let count : ℕ = g.P.Pages.count c.args.pages.now in
    let a0 : List ℕ = g.P.Pages.asked c.args.pages.now in
    let a1 : List ℕ = g.P.Pages.asked c.read.new.self in
    let read = c.in_ok-below.ensures in
    own-looked form old (g.P.Pages.pages c.read.new.self) c.args.level l page at child c.args.bytes.now a0 a1 (g.P.Pages.asked c.look_if_low.new.pages) up is small e read.pages read.asked c.look_if_low.ensures.own

pub remove_in-requires : goal.remove_in-requires
remove_in-requires g t c = λ κs within. (
  omega arith,
  (
    within,
    (
      c.least_at.ensures.some,
      (
        c.lower.ensures.length,
        (
          c.upper.ensures.length,
          (
            c.requires.key,
            (
              c.lower.ensures.from (number c.args.key.now) c.in-Ok.ensures.place c.requires.from,
              (
                c.upper.ensures.to (number c.args.key.now) c.in-Ok.ensures.place c.requires.to,
                λ u. let f = c.in_ok-below.ensures.uncounted (subst (λ (k : ℕ). IsUncounted k c.child_at-child.result) (c.look_if_low.ensures.frame.count ∙ c.in_ok-below.ensures.count) u) in cc,
              ),
            ),
          ),
        ),
      ),
    ),
  ),
)

-- refused below
pub returns-in_err-removed-clause-damaged : goal.returns-in_err-removed-clause-damaged
returns-in_err-removed-clause-damaged g t c =
    let old : PageMap = g.P.Pages.pages c.args.pages.now in
    let form = c.args.form in
    let page : ℕ = c.args.page in
    let l : ℕ = c.args.level - 1 in
    let up : c.args.level ≡ suc l = omega arith in
    let at : ℕ = c.in-Ok.found.at in
    let w = c.in-Ok.ensures.within in
    let small : at < count_of c.args.bytes.now = omega arith in
    let child : ℕ = c.child_at-child.result in
    let e = c.child_at-child.ensures in
    let lo : ℕ = number c.args.low.now in
    let hi : ℕ = upper_of form.key c.args.high.now in
    let count : ℕ = g.P.Pages.count c.args.pages.now in
    let a0 : List ℕ = g.P.Pages.asked c.args.pages.now in
    let a1 : List ℕ = g.P.Pages.asked c.read.new.self in
    let read = c.in_ok-below.ensures in
    let look = c.look_if_low.ensures in
    let a2 : List ℕ = g.P.Pages.asked c.look_if_low.new.pages in
    let p2 : PageMap = g.P.Pages.pages c.look_if_low.new.pages in
    let n2 : ℕ = g.P.Pages.count c.look_if_low.new.pages in
    let same = look.frame.pages ∙ read.pages in
    let more = look.frame.count ∙ read.count in
    let passed = err_from_is_err_and c.from_residual-in_err-removed.result c.from_residual-in_err-removed.ensures.1 in
    rw (passed.1, passed.2) (λ told is damage r.
    let was = c.in_err-removed.was ∙ ap Err (same-fault {T = Option ℕ} _ _ r) in
    let lo' : ℕ = number c.lower.result.now in
    let hi' : ℕ = upper_of form.key c.upper.result.now in
    let there = read.gives (told-read old count child told (λ u. let f = read.uncounted u in cc)) in
    let claim = subst (λ (n : ℕ). AreReadable old n → c.in_ok-below.below ≡ old child → IsDamaged form old n damage c.least_at.result l child lo' hi') more
    (subst (λ (p : PageMap). AreReadable p n2 → c.in_ok-below.below ≡ p child → IsDamaged form p n2 damage c.least_at.result l child lo' hi') same
    (λ a b. c.remove_in.ensures.damaged a b damage was)) in
    damage-below form old c.args.bytes.now c.args.level l page at up is small count damage c.args.least c.least_at.result lo hi lo' hi' child
    c.least_at.ensures.is c.lower.ensures.is c.upper.ensures.is e (claim told there))

pub returns-in_err-removed-clause-in_tree : goal.returns-in_err-removed-clause-in_tree
returns-in_err-removed-clause-in_tree g t c =
    let old : PageMap = g.P.Pages.pages c.args.pages.now in
    let form = c.args.form in
    let page : ℕ = c.args.page in
    let l : ℕ = c.args.level - 1 in
    let up : c.args.level ≡ suc l = omega arith in
    let at : ℕ = c.in-Ok.found.at in
    let w = c.in-Ok.ensures.within in
    let small : at < count_of c.args.bytes.now = omega arith in
    let child : ℕ = c.child_at-child.result in
    let e = c.child_at-child.ensures in
    let lo : ℕ = number c.args.low.now in
    let hi : ℕ = upper_of form.key c.args.high.now in
    let count : ℕ = g.P.Pages.count c.args.pages.now in
    let a0 : List ℕ = g.P.Pages.asked c.args.pages.now in
    let a1 : List ℕ = g.P.Pages.asked c.read.new.self in
    let read = c.in_ok-below.ensures in
    let look = c.look_if_low.ensures in
    let a2 : List ℕ = g.P.Pages.asked c.look_if_low.new.pages in
    let p2 : PageMap = g.P.Pages.pages c.look_if_low.new.pages in
    let n2 : ℕ = g.P.Pages.count c.look_if_low.new.pages in
    let same = look.frame.pages ∙ read.pages in
    let more = look.frame.count ∙ read.count in
    let passed = err_from_is_err_and c.from_residual-in_err-removed.result c.from_residual-in_err-removed.ensures.1 in
    rw (passed.1, passed.2) (λ is tree damage r.
    let was = c.in_err-removed.was ∙ ap Err (same-fault {T = Option ℕ} _ _ r) in
    let lo' : ℕ = number c.lower.result.now in
    let hi' : ℕ = upper_of form.key c.upper.result.now in
    let below_tree = tree-below form old c.args.bytes.now c.args.level l page at up is small c.args.least c.least_at.result lo hi lo' hi' child c.least_at.ensures.is c.lower.ensures.is c.upper.ensures.is e tree in
    let there = read.gives (tree-size form c.least_at.result old l child lo' hi' below_tree) in
    let claim = subst (λ (n : ℕ). c.in_ok-below.below ≡ old child → IsTree form c.least_at.result old l child lo' hi' → IsDamaged form old n damage c.least_at.result l child lo' hi') more
    (subst (λ (p : PageMap). c.in_ok-below.below ≡ p child → IsTree form c.least_at.result p l child lo' hi' → IsDamaged form p n2 damage c.least_at.result l child lo' hi') same
    (λ a b. c.remove_in.ensures.in_tree a b damage was)) in
    damage-below form old c.args.bytes.now c.args.level l page at up is small count damage c.args.least c.least_at.result lo hi lo' hi' child
    c.least_at.ensures.is c.lower.ensures.is c.upper.ensures.is e (claim there below_tree))

pub returns-in_err-removed-clause-named : goal.returns-in_err-removed-clause-named
returns-in_err-removed-clause-named g t c =
    let old : PageMap = g.P.Pages.pages c.args.pages.now in
    let form = c.args.form in
    let page : ℕ = c.args.page in
    let l : ℕ = c.args.level - 1 in
    let up : c.args.level ≡ suc l = omega arith in
    let at : ℕ = c.in-Ok.found.at in
    let w = c.in-Ok.ensures.within in
    let small : at < count_of c.args.bytes.now = omega arith in
    let child : ℕ = c.child_at-child.result in
    let e = c.child_at-child.ensures in
    let lo : ℕ = number c.args.low.now in
    let hi : ℕ = upper_of form.key c.args.high.now in
    let count : ℕ = g.P.Pages.count c.args.pages.now in
    let a0 : List ℕ = g.P.Pages.asked c.args.pages.now in
    let a1 : List ℕ = g.P.Pages.asked c.read.new.self in
    let read = c.in_ok-below.ensures in
    let look = c.look_if_low.ensures in
    let a2 : List ℕ = g.P.Pages.asked c.look_if_low.new.pages in
    let p2 : PageMap = g.P.Pages.pages c.look_if_low.new.pages in
    let n2 : ℕ = g.P.Pages.count c.look_if_low.new.pages in
    let same = look.frame.pages ∙ read.pages in
    let more = look.frame.count ∙ read.count in
    let passed = err_from_is_err_and c.from_residual-in_err-removed.result c.from_residual-in_err-removed.ensures.1 in
    rw (passed.1, passed.2) (λ before asked damage r.
    let was = c.in_err-removed.was ∙ ap Err (same-fault {T = Option ℕ} _ _ r) in
    c.remove_in.ensures.named before (asks-keep (λ _. 1) a1 a2 look.more before child (asked-child before a0 a1 page child asked read.asked)) damage was)

pub returns-in_err-removed-clause-own : goal.returns-in_err-removed-clause-own
returns-in_err-removed-clause-own g t c = λ told is.
    let old : PageMap = g.P.Pages.pages c.args.pages.now in
    let form = c.args.form in
    let page : ℕ = c.args.page in
    let l : ℕ = c.args.level - 1 in
    let up : c.args.level ≡ suc l = omega arith in
    let at : ℕ = c.in-Ok.found.at in
    let w = c.in-Ok.ensures.within in
    let small : at < count_of c.args.bytes.now = omega arith in
    let child : ℕ = c.child_at-child.result in
    let e = c.child_at-child.ensures in
    let lo : ℕ = number c.args.low.now in
    let hi : ℕ = upper_of form.key c.args.high.now in
    let count : ℕ = g.P.Pages.count c.args.pages.now in
    let a0 : List ℕ = g.P.Pages.asked c.args.pages.now in
    let a1 : List ℕ = g.P.Pages.asked c.read.new.self in
    let read = c.in_ok-below.ensures in
    let look = c.look_if_low.ensures in
    let a2 : List ℕ = g.P.Pages.asked c.look_if_low.new.pages in
    let p2 : PageMap = g.P.Pages.pages c.look_if_low.new.pages in
    let n2 : ℕ = g.P.Pages.count c.look_if_low.new.pages in
    let same = look.frame.pages ∙ read.pages in
    let more = look.frame.count ∙ read.count in
    own-below form old p2 count n2 c.args.level l page at child c.args.bytes.now c.in_ok-below.below a0 a2 (g.P.Pages.asked c.remove_in.new.pages) up is small e same more told (read.gives (told-read old count child told (λ u. let f = read.uncounted u in cc)))
    (own-looked form old (g.P.Pages.pages c.read.new.self) c.args.level l page at child c.args.bytes.now a0 a1 a2 up is small e read.pages read.asked look.own) c.remove_in.ensures.own

-- no row has the key
pub returns-in-None-clause-own : goal.returns-in-None-clause-own
returns-in-None-clause-own g t c = λ told is.
    let old : PageMap = g.P.Pages.pages c.args.pages.now in
    let form = c.args.form in
    let page : ℕ = c.args.page in
    let l : ℕ = c.args.level - 1 in
    let up : c.args.level ≡ suc l = omega arith in
    let at : ℕ = c.in-Ok.found.at in
    let w = c.in-Ok.ensures.within in
    let small : at < count_of c.args.bytes.now = omega arith in
    let child : ℕ = c.child_at-child.result in
    let e = c.child_at-child.ensures in
    let lo : ℕ = number c.args.low.now in
    let hi : ℕ = upper_of form.key c.args.high.now in
    let count : ℕ = g.P.Pages.count c.args.pages.now in
    let a0 : List ℕ = g.P.Pages.asked c.args.pages.now in
    let a1 : List ℕ = g.P.Pages.asked c.read.new.self in
    let read = c.in_ok-below.ensures in
    let look = c.look_if_low.ensures in
    let a2 : List ℕ = g.P.Pages.asked c.look_if_low.new.pages in
    let p2 : PageMap = g.P.Pages.pages c.look_if_low.new.pages in
    let n2 : ℕ = g.P.Pages.count c.look_if_low.new.pages in
    let same = look.frame.pages ∙ read.pages in
    let more = look.frame.count ∙ read.count in
    own-below form old p2 count n2 c.args.level l page at child c.args.bytes.now c.in_ok-below.below a0 a2 (g.P.Pages.asked c.remove_in.new.pages) up is small e same more told (read.gives (told-read old count child told (λ u. let f = read.uncounted u in cc)))
    (own-looked form old (g.P.Pages.pages c.read.new.self) c.args.level l page at child c.args.bytes.now a0 a1 a2 up is small e read.pages read.asked look.own) c.remove_in.ensures.own

pub returns-in-None-clause-removed : goal.returns-in-None-clause-removed
returns-in-None-clause-removed g t c = λ free is tree supplied once.
    let old : PageMap = g.P.Pages.pages c.args.pages.now in
    let form = c.args.form in
    let page : ℕ = c.args.page in
    let l : ℕ = c.args.level - 1 in
    let up : c.args.level ≡ suc l = omega arith in
    let at : ℕ = c.in-Ok.found.at in
    let w = c.in-Ok.ensures.within in
    let small : at < count_of c.args.bytes.now = omega arith in
    let child : ℕ = c.child_at-child.result in
    let e = c.child_at-child.ensures in
    let lo : ℕ = number c.args.low.now in
    let hi : ℕ = upper_of form.key c.args.high.now in
    let count : ℕ = g.P.Pages.count c.args.pages.now in
    let a0 : List ℕ = g.P.Pages.asked c.args.pages.now in
    let a1 : List ℕ = g.P.Pages.asked c.read.new.self in
    let read = c.in_ok-below.ensures in
    let look = c.look_if_low.ensures in
    let a2 : List ℕ = g.P.Pages.asked c.look_if_low.new.pages in
    let p2 : PageMap = g.P.Pages.pages c.look_if_low.new.pages in
    let n2 : ℕ = g.P.Pages.count c.look_if_low.new.pages in
    let same = look.frame.pages ∙ read.pages in
    let more = look.frame.count ∙ read.count in
    let first : ℕ = g.P.Pages.first c.args.pages.now in
    let key : ℕ = number c.args.key.now in
    let lo' : ℕ = number c.lower.result.now in
    let hi' : ℕ = upper_of form.key c.upper.result.now in
    let mid : PageMap = g.P.Pages.pages c.remove_in.new.pages in
    let nmid : ℕ = g.P.Pages.count c.remove_in.new.pages in
    let fmid : ℕ = g.P.Pages.first c.remove_in.new.pages in
    let below_tree = tree-below form old c.args.bytes.now c.args.level l page at up is small c.args.least c.least_at.result lo hi lo' hi' child c.least_at.ensures.is c.lower.ensures.is c.upper.ensures.is e tree in
    let there = read.gives (tree-size form c.least_at.result old l child lo' hi' below_tree) in
    let once_child : (n : ℕ) → uses form old l child n + spare free count n ≤ 1 = λ n. (let o = once n in let u = uses-most form old c.args.bytes.now c.args.level l page at up is small child n e in omega arith) in
    let claim = child-claim form old p2 count n2 first (g.P.Pages.first c.look_if_low.new.pages) free mid nmid fmid l child lo' hi' key c.least_at.result c.in_ok-below.below c.remove_in.new.bytes c.in_ok-removed.removed same more (look.frame.first ∙ read.first)
    (c.in_ok-removed.ensures.removed free) there below_tree supplied once_child in
    let row = lookup-below form old c.args.bytes.now c.args.level l page at up is small c.args.least lo hi key child e c.in-Ok.ensures.place c.requires.from c.requires.to tree in
    row ∙ subst (λ (o : Option ℕ). HasRemoved form (view old count first free) (uses form old l child) mid nmid fmid l child lo' hi' key (rows_at form old l child) c.remove_in.new.bytes o) c.in-None.is claim

pub settle_if_low-requires-clause-left_some : goal.settle_if_low-requires-clause-left_some
settle_if_low-requires-clause-left_some g t c =
    let less = subst (λ (o : Option ℕ). Lessens c.args.form (c.args.level - 1) c.least_at.result c.in_ok-below.below c.remove_in.new.bytes o) c.in-Some.is c.in_ok-removed.ensures.less in
    let h = half_some c.args.form (c.args.level - 1) in
    let i = c.least_at.ensures.is in
    let f = less.fill in
    omega arith

pub returns-in_err-entries-clause-own : goal.returns-in_err-entries-clause-own
returns-in_err-entries-clause-own g t c = λ told is.
    let old : PageMap = g.P.Pages.pages c.args.pages.now in
    let form = c.args.form in
    let page : ℕ = c.args.page in
    let l : ℕ = c.args.level - 1 in
    let up : c.args.level ≡ suc l = omega arith in
    let at : ℕ = c.in-Ok.found.at in
    let w = c.in-Ok.ensures.within in
    let small : at < count_of c.args.bytes.now = omega arith in
    let child : ℕ = c.child_at-child.result in
    let e = c.child_at-child.ensures in
    let lo : ℕ = number c.args.low.now in
    let hi : ℕ = upper_of form.key c.args.high.now in
    let count : ℕ = g.P.Pages.count c.args.pages.now in
    let a0 : List ℕ = g.P.Pages.asked c.args.pages.now in
    let a1 : List ℕ = g.P.Pages.asked c.read.new.self in
    let read = c.in_ok-below.ensures in
    let look = c.look_if_low.ensures in
    let a2 : List ℕ = g.P.Pages.asked c.look_if_low.new.pages in
    let p2 : PageMap = g.P.Pages.pages c.look_if_low.new.pages in
    let n2 : ℕ = g.P.Pages.count c.look_if_low.new.pages in
    let same = look.frame.pages ∙ read.pages in
    let more = look.frame.count ∙ read.count in
    subst (λ (x : List ℕ). AsksOnly (uses form old c.args.level page) a0 x) (sym c.settle_if_low.ensures.frame.asked) (
    own-below form old p2 count n2 c.args.level l page at child c.args.bytes.now c.in_ok-below.below a0 a2 (g.P.Pages.asked c.remove_in.new.pages) up is small e same more told (read.gives (told-read old count child told (λ u. let f = read.uncounted u in cc)))
    (own-looked form old (g.P.Pages.pages c.read.new.self) c.args.level l page at child c.args.bytes.now a0 a1 a2 up is small e read.pages read.asked look.own) c.remove_in.ensures.own)

pub returns-clause-own : goal.returns-clause-own
returns-clause-own g t c = λ told is.
    let old : PageMap = g.P.Pages.pages c.args.pages.now in
    let form = c.args.form in
    let page : ℕ = c.args.page in
    let l : ℕ = c.args.level - 1 in
    let up : c.args.level ≡ suc l = omega arith in
    let at : ℕ = c.in-Ok.found.at in
    let w = c.in-Ok.ensures.within in
    let small : at < count_of c.args.bytes.now = omega arith in
    let child : ℕ = c.child_at-child.result in
    let e = c.child_at-child.ensures in
    let lo : ℕ = number c.args.low.now in
    let hi : ℕ = upper_of form.key c.args.high.now in
    let count : ℕ = g.P.Pages.count c.args.pages.now in
    let a0 : List ℕ = g.P.Pages.asked c.args.pages.now in
    let a1 : List ℕ = g.P.Pages.asked c.read.new.self in
    let read = c.in_ok-below.ensures in
    let look = c.look_if_low.ensures in
    let a2 : List ℕ = g.P.Pages.asked c.look_if_low.new.pages in
    let p2 : PageMap = g.P.Pages.pages c.look_if_low.new.pages in
    let n2 : ℕ = g.P.Pages.count c.look_if_low.new.pages in
    let same = look.frame.pages ∙ read.pages in
    let more = look.frame.count ∙ read.count in
    subst (λ (x : List ℕ). AsksOnly (uses form old c.args.level page) a0 x) (sym c.settle_if_low.ensures.frame.asked) (
    own-below form old p2 count n2 c.args.level l page at child c.args.bytes.now c.in_ok-below.below a0 a2 (g.P.Pages.asked c.remove_in.new.pages) up is small e same more told (read.gives (told-read old count child told (λ u. let f = read.uncounted u in cc)))
    (own-looked form old (g.P.Pages.pages c.read.new.self) c.args.level l page at child c.args.bytes.now a0 a1 a2 up is small e read.pages read.asked look.own) c.remove_in.ensures.own)

pub returns-clause-less : goal.returns-clause-less
returns-clause-less g t c =
    let up : c.args.level ≡ suc (c.args.level - 1) = omega arith in
    let w = c.in-Ok.ensures.within in
    let n = c.in_ok-entries.ensures.counted in
    let r = c.in_ok-entries.ensures.range in
    let f = c.in-Ok.ensures.sound.node.fill in
    let m = mul-le-mul_left {m = c.in_ok-entries.entries} {n = c.in-Ok.found.count} (c.args.form.key + 4) (omega arith) in
    let v : width_of c.args.form c.args.level * c.in_ok-entries.entries ≡ (c.args.form.key + 4) * c.in_ok-entries.entries = ap (λ (k : ℕ). width_of c.args.form k * c.in_ok-entries.entries) up in
    record { counted = λ _. n; most = omega arith; one = omega arith; fill = omega arith; fits = omega arith }

pub returns-clause-removed : goal.returns-clause-removed
returns-clause-removed g t c = λ free is tree supplied once.
    let old : PageMap = g.P.Pages.pages c.args.pages.now in
    let form = c.args.form in
    let page : ℕ = c.args.page in
    let l : ℕ = c.args.level - 1 in
    let up : c.args.level ≡ suc l = omega arith in
    let at : ℕ = c.in-Ok.found.at in
    let w = c.in-Ok.ensures.within in
    let small : at < count_of c.args.bytes.now = omega arith in
    let child : ℕ = c.child_at-child.result in
    let e = c.child_at-child.ensures in
    let lo : ℕ = number c.args.low.now in
    let hi : ℕ = upper_of form.key c.args.high.now in
    let count : ℕ = g.P.Pages.count c.args.pages.now in
    let a0 : List ℕ = g.P.Pages.asked c.args.pages.now in
    let a1 : List ℕ = g.P.Pages.asked c.read.new.self in
    let read = c.in_ok-below.ensures in
    let look = c.look_if_low.ensures in
    let a2 : List ℕ = g.P.Pages.asked c.look_if_low.new.pages in
    let p2 : PageMap = g.P.Pages.pages c.look_if_low.new.pages in
    let n2 : ℕ = g.P.Pages.count c.look_if_low.new.pages in
    let same = look.frame.pages ∙ read.pages in
    let more = look.frame.count ∙ read.count in
    let first : ℕ = g.P.Pages.first c.args.pages.now in
    let key : ℕ = number c.args.key.now in
    let lo' : ℕ = number c.lower.result.now in
    let hi' : ℕ = upper_of form.key c.upper.result.now in
    let mid : PageMap = g.P.Pages.pages c.remove_in.new.pages in
    let nmid : ℕ = g.P.Pages.count c.remove_in.new.pages in
    let fmid : ℕ = g.P.Pages.first c.remove_in.new.pages in
    let below_tree = tree-below form old c.args.bytes.now c.args.level l page at up is small c.args.least c.least_at.result lo hi lo' hi' child c.least_at.ensures.is c.lower.ensures.is c.upper.ensures.is e tree in
    let there = read.gives (tree-size form c.least_at.result old l child lo' hi' below_tree) in
    let once_child : (n : ℕ) → uses form old l child n + spare free count n ≤ 1 = λ n. (let o = once n in let u = uses-most form old c.args.bytes.now c.args.level l page at up is small child n e in omega arith) in
    let claim = child-claim form old p2 count n2 first (g.P.Pages.first c.look_if_low.new.pages) free mid nmid fmid l child lo' hi' key c.least_at.result c.in_ok-below.below c.remove_in.new.bytes c.in_ok-removed.removed same more (look.frame.first ∙ read.first)
    (c.in_ok-removed.ensures.removed free) there below_tree supplied once_child in
    let row = lookup-below form old c.args.bytes.now c.args.level l page at up is small c.args.least lo hi key child e c.in-Ok.ensures.place c.requires.from c.requires.to tree in
    let left : ℕ = c.in-Some.left in
    let out : IsOut form (view old count first free) (uses form old l child) mid nmid fmid l child lo' hi' key (rows_at form old l child) c.remove_in.new.bytes left =
    subst (λ (o : Option ℕ). HasRemoved form (view old count first free) (uses form old l child) mid nmid fmid l child lo' hi' key (rows_at form old l child) c.remove_in.new.bytes o) c.in-Some.is claim in
    let less : IsLess form l c.least_at.result c.in_ok-below.below c.remove_in.new.bytes left = subst (λ (o : Option ℕ). Lessens form l c.least_at.result c.in_ok-below.below c.remove_in.new.bytes o) c.in-Some.is c.in_ok-removed.ensures.less in
    let h = half_some form l in
    let i = c.least_at.ensures.is in
    let fill = less.fill in
    let pos : 0 < left = omega arith in
    let root : least_of_root c.args.level ≡ 2 = ap least_of_root up in
    let tree' : IsTree form c.args.least old (suc l) page lo hi = subst (λ (k : ℕ). IsTree form c.args.least old k page lo hi) up tree in
    let once' : (n : ℕ) → uses form old (suc l) page n + spare free count n ≤ 1 = subst (λ (k : ℕ). (n : ℕ) → uses form old k page n + spare free count n ≤ 1) up once in
    let row' : lookup key (rows_at form old (suc l) page) ≡ lookup key (rows_at form old l child) = subst (λ (k : ℕ). lookup key (rows_at form old k page) ≡ lookup key (rows_at form old l child)) up row in
    let risen = rise form old count first c.args.least l page lo hi key at free c.args.bytes.now is (let q = c.requires.least in omega arith) tree' c.in-Ok.ensures.place c.requires.from c.requires.to supplied once'
    mid nmid fmid left child lo' hi' c.remove_in.new.bytes e c.lower.ensures.is c.upper.ensures.is pos row' out in
    let near-told : (near : ℕ) → IsBeside at c.in-Ok.found.count near → (0 < length (old (child_of form c.args.bytes.now near))) × (mid (child_of form c.args.bytes.now near) ≡ old (child_of form c.args.bytes.now near)) =
    λ near b. (
      let b0 = b.0 in
          tree-size form _ old l (child_of form c.args.bytes.now near) _ _ (tree-below form old c.args.bytes.now c.args.level l page near up is (omega arith) c.args.least _ lo hi _ _ (child_of form c.args.bytes.now near) refl refl refl refl tree),
      risen.beside near (subst (λ (k : ℕ). IsBeside at k near) w.1 b),
    ) in
    let neighbour = beside-is form (g.P.Pages.pages c.read.new.self) old mid (g.P.Pages.count c.read.new.self) l c.args.bytes.now at c.in-Ok.found.count (count_of c.in_ok-below.below) c.in_ok-beside.beside read.pages c.in_ok-beside.ensures.looked c.in_ok-beside.ensures.readable near-told in
    let became = c.in_ok-entries.ensures.becomes lo hi risen.free' risen.inner risen.here (out.bytes_are pos ∙ ap mid e) neighbour (less.counted pos) risen.low_child risen.supplied risen.once in
    let r = c.in_ok-entries.ensures.range.0 in
    let whole = risen.then_out (g.P.Pages.pages c.settle_if_low.new.pages) (g.P.Pages.count c.settle_if_low.new.pages) (g.P.Pages.first c.settle_if_low.new.pages) c.in_ok-entries.entries c.settle_if_low.new.bytes r became (c.in_ok-entries.ensures.bytes risen.here) in
    subst (λ (k : ℕ). IsOut form (view old count first free) (uses form old k page) (g.P.Pages.pages c.settle_if_low.new.pages) (g.P.Pages.count c.settle_if_low.new.pages) (g.P.Pages.first c.settle_if_low.new.pages) k page lo hi key (rows_at form old k page) c.settle_if_low.new.bytes c.in_ok-entries.entries) (sym up) whole

pub returns-in_err-removed-clause-frame : goal.returns-in_err-removed-clause-frame
returns-in_err-removed-clause-frame g t c =
    let p = g.P.Pages in
    let r = c.in_ok-below.ensures in
    takes_none_then p g.met.P.Pages.goes_further _ _ _ (read-looked p g.met.P.Pages.goes_further _ _ _ r.count r.room r.faults r.refused r.goes_on r.follows c.look_if_low.ensures.frame) c.remove_in.ensures.frame

pub returns-in-None-clause-frame : goal.returns-in-None-clause-frame
returns-in-None-clause-frame g t c =
    let p = g.P.Pages in
    let r = c.in_ok-below.ensures in
    takes_none_then p g.met.P.Pages.goes_further _ _ _ (read-looked p g.met.P.Pages.goes_further _ _ _ r.count r.room r.faults r.refused r.goes_on r.follows c.look_if_low.ensures.frame) c.remove_in.ensures.frame

pub returns-in_err-entries-clause-fails : goal.returns-in_err-entries-clause-fails
returns-in_err-entries-clause-fails g t c =
    let p = g.P.Pages in
    let r = c.in_ok-below.ensures in
    let before = takes_none_then p g.met.P.Pages.goes_further _ _ _ (read-looked p g.met.P.Pages.goes_further _ _ _ r.count r.room r.faults r.refused r.goes_on r.follows c.look_if_low.ensures.frame) c.remove_in.ensures.frame in
    let s = c.settle_if_low.ensures.fails in
    let passed = err_from_is_err_and c.from_residual-in_err-entries.result c.from_residual-in_err-entries.ensures.1 in
    rw (passed.1, passed.2) (record {
      disk = λ e. absurd (s.disk (c.in_err-entries.was ∙ ap Err (same-fault {T = Option ℕ} _ _ e)));
      hides_none = λ other. c.settle_if_low.ensures.frame.faults ∙ c.in_ok-removed.ensures.fails.hides_none ∙ c.in_ok-beside.ensures.fails.hides_none ∙ c.in_ok-below.ensures.hides_none;
      room_left = λ e. s.room_left (c.in_err-entries.was ∙ ap Err (same-fault {T = Option ℕ} _ _ e));
      stopped = λ e. subst (λ (b : Bool). IsTrue b) before.goes_on (s.stopped (c.in_err-entries.was ∙ ap Err (same-fault {T = Option ℕ} _ _ e)));
    })

pub returns-in_err-entries-clause-frame : goal.returns-in_err-entries-clause-frame
returns-in_err-entries-clause-frame g t c =
    let p = g.P.Pages in
    let r = c.in_ok-below.ensures in
    takes_none_then p g.met.P.Pages.goes_further _ _ _ (takes_none_then p g.met.P.Pages.goes_further _ _ _ (read-looked p g.met.P.Pages.goes_further _ _ _ r.count r.room r.faults r.refused r.goes_on r.follows c.look_if_low.ensures.frame) c.remove_in.ensures.frame) (writes_take_none p _ _ c.settle_if_low.ensures.frame)

pub returns-clause-frame : goal.returns-clause-frame
returns-clause-frame g t c =
    let p = g.P.Pages in
    let r = c.in_ok-below.ensures in
    takes_none_then p g.met.P.Pages.goes_further _ _ _ (takes_none_then p g.met.P.Pages.goes_further _ _ _ (read-looked p g.met.P.Pages.goes_further _ _ _ r.count r.room r.faults r.refused r.goes_on r.follows c.look_if_low.ensures.frame) c.remove_in.ensures.frame) (writes_take_none p _ _ c.settle_if_low.ensures.frame)

pub returns-clause-told : goal.returns-clause-told
returns-clause-told g t c = λ told.
    let read = c.in_ok-below.ensures in
    let look = c.look_if_low.ensures.frame in
    c.in_ok-entries.ensures.told (c.in_ok-removed.ensures.told (rw (look.pages, read.pages, look.count, read.count) told))

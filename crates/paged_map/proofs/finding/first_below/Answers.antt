use Rattle.std.proofs.Common.{rules, arith, ◌≡◌, ◌^◌, ◌<◌, ℕ, List, [], ◌∷◌, length, take, ◌∙◌, sym, ap, subst, refl, Err, Option, None, Some, is_some, if◌then◌else◌}
use Rattle.std.specs.Prelude.{IfSome}
use Rattle.std.proofs.lemmas.Bool.Decides.{nat_tests}
use Rattle.page_face.specs.FreeList.{PageMap}
use Rattle.page_face.specs.Number.{number}
use Rattle.btree_nodes.specs.declared.form.Form.{Form}
use Rattle.btree_nodes.specs.Rows.{Row, first_from}
use Rattle.btree_nodes.specs.Damages.{AreReadable}
use Rattle.btree_nodes.specs.Tree.{IsMap, map_rows, map_uses}
use Rattle.btree_nodes.proofs.Checks.{upper-some}
use Rattle.btree_nodes.proofs.Harms.{asks-nothing}
use Rattle.btree_nodes.proofs.Walks.{same-fault}
use Rattle.btree_nodes.specs.Steps.{high_of}
use Rattle.paged_map.specs.Answers.{HasRead}
use Rattle.paged_map.specs.Lookups.{IsFirstPast, IsFirstThere}
use Rattle.paged_map.proofs.Behind.{own-behind, named-behind}
use Rattle.paged_map.proofs.Lookups.{upper-none}
use Rattle.paged_map.proofs.Readings.{read-behind}
use Rattle.paged_map.proofs.finding.first_below.Goals as goal

pub leaves-init : goal.leaves-init
leaves-init g c =
    let form : Form = c.args.form in
    let key : List ℕ = c.args.key.now in
    let e : take form.key c.set_key.new.buffer ≡ key = subst (λ (n : ℕ). take n c.set_key.new.buffer ≡ key) c.requires.key c.set_key.ensures.front in
    record {
      same = λ map. ap (λ (k : List ℕ). first_from (number k) (map_rows form (g.P.Pages.pages c.args.pages.now) c.args.root)) (sym e);
      first = λ told row keys past. (keys, subst (λ (k : List ℕ). IsFirstPast form (g.P.Pages.pages c.args.pages.now) (g.P.Pages.count c.args.pages.now) c.args.root keys (number k) row) e past);
      own = λ told. asks-nothing _ _ _ refl;
      on = rw e (omega arith);
      below = rw e (subst (λ (n : ℕ). number key < 256 ^ n) c.requires.key c.set_key.ensures.below);
      key = c.requires.key;
      found = c.requires.found;
      value = c.requires.value;
      frame = search rules;
      faults = search rules;
    }

pub returns-in-Ok-Some-clause-own : goal.returns-in-Ok-Some-clause-own
returns-in-Ok-Some-clause-own g c = λ told.
    let f = c.leaves.invariant.frame in
    own-behind c.args.form c.args.root _ _ _ _ f.pages f.count _ _ _ c.leaves.invariant.own c.first_at.ensures.own told

pub returns-in-Err-clause-named : goal.returns-in-Err-clause-named
returns-in-Err-clause-named g c = λ told damage e.
    let f = c.leaves.invariant.frame in
    named-behind c.args.form c.args.root _ _ _ _ f.pages f.count _ _ _ c.leaves.invariant.own damage.page (λ t. c.first_at.ensures.named t damage (c.in-Err.is ∙ ap Err (same-fault {T = Option ℕ} _ _ e))) told

pub returns-in-Err-clause-own : goal.returns-in-Err-clause-own
returns-in-Err-clause-own g c = λ told.
    let f = c.leaves.invariant.frame in
    own-behind c.args.form c.args.root _ _ _ _ f.pages f.count _ _ _ c.leaves.invariant.own c.first_at.ensures.own told

pub returns-then-is_empty-clause-own : goal.returns-then-is_empty-clause-own
returns-then-is_empty-clause-own g c = λ told.
    let f = c.leaves.invariant.frame in
    own-behind c.args.form c.args.root _ _ _ _ f.pages f.count _ _ _ c.leaves.invariant.own c.first_at.ensures.own told

pub leaves-preserved : goal.leaves-preserved
leaves-preserved g c =
    let form : Form = c.args.form in
    let root : ℕ = c.args.root in
    let old : PageMap = g.P.Pages.pages c.args.pages.now in
    let f = c.leaves.invariant.frame in
    let high : List ℕ = c.high-high.result.now in
    let some : 0 < length high = grind (arith, nat_tests) in
    let long : length high ≡ form.key = let l = c.high-high.ensures.length in let t = c.in-Ok-None.ensures.top (omega arith) in omega arith in
    let e : take form.key c.set_key-in-leaves.new.buffer ≡ high = subst (λ (n : ℕ). take n c.set_key-in-leaves.new.buffer ≡ high) long c.set_key-in-leaves.ensures.front in
    let is : high_of form c.first_at.new.bounds ≡ number (take form.key c.set_key-in-leaves.new.buffer) =
    upper-some form.key (take c.first_at.new.bounds.top c.first_at.new.bounds.high) (subst (λ (x : List ℕ). 0 < length x) c.high-high.ensures.is some)
    ∙ ap number (sym c.high-high.ensures.is) ∙ ap number (sym e) in
    let past = rw c.in-Ok-None.field-0-is at c.in-Ok-None.ensures.found in
    let further : number (take form.key c.leaves.from) < high_of form c.first_at.new.bounds = search rules in
    record {
      same = λ map. c.leaves.invariant.same map
          ∙ subst (λ (x : PageMap). IsMap form x root → first_from (number (take form.key c.leaves.from)) (map_rows form x root) ≡ first_from (high_of form c.first_at.new.bounds) (map_rows form x root)) f.pages past map
          ∙ ap (λ (k : ℕ). first_from k (map_rows form old root)) is;
      first = λ told row keys rest.
          let there : AreReadable (g.P.Pages.pages c.leaves.pages) (g.P.Pages.count c.leaves.pages) = rw (f.pages, f.count) told in
          let here = number (take form.key c.leaves.from) in
          let count : ℕ = g.P.Pages.count c.args.pages.now in
          let high_is = high_of form c.first_at.new.bounds in
          let none : IsFirstThere form (g.P.Pages.pages c.leaves.pages) (g.P.Pages.count c.leaves.pages) root here high_is None =
          subst (λ (o : Option ℕ). IsFirstThere form (g.P.Pages.pages c.leaves.pages) (g.P.Pages.count c.leaves.pages) root here high_is (if is_some o then Some (number c.first_at.new.found, c.first_at.new.value) else None)) c.in-Ok-None.field-0-is (c.in-Ok-None.ensures.way there) in
          let mine : IsFirstThere form old count root here high_is None =
          subst (λ (n : ℕ). IsFirstThere form old n root here high_is None) f.count (subst (λ (x : PageMap). IsFirstThere form x (g.P.Pages.count c.leaves.pages) root here high_is None) f.pages none) in
          c.leaves.invariant.first told row (high_is ∷ keys) (mine, subst (λ (k : ℕ). IsFirstPast form old count root keys k row) (sym is) rest);
      own = λ told. own-behind form root _ _ _ _ f.pages f.count _ _ _ c.leaves.invariant.own c.first_at.ensures.own told;
      on = let k = c.leaves.invariant.on in omega (arith, is, further, k);
      below = rw e (subst (λ (n : ℕ). number high < 256 ^ n) long c.set_key-in-leaves.ensures.below);
      key = c.leaves.invariant.key;
      found = search rules;
      value = search rules;
      frame = search rules;
      faults = search rules;
    }

pub returns-in-Ok-Some-clause-read : goal.returns-in-Ok-Some-clause-read
returns-in-Ok-Some-clause-read g c = λ told.
    let f = c.leaves.invariant.frame in
    let there : AreReadable (g.P.Pages.pages c.leaves.pages) (g.P.Pages.count c.leaves.pages) = rw (f.pages, f.count) told in
    let form : Form = c.args.form in
    read-behind form (g.P.Pages.pages c.args.pages.now) (g.P.Pages.pages c.leaves.pages) (map_uses form (g.P.Pages.pages c.args.pages.now) c.args.root) (g.P.Pages.asked c.args.pages.now) (g.P.Pages.asked c.leaves.pages) (g.P.Pages.asked c.first_at.new.pages)
    (number c.first_at.new.found, c.first_at.new.value) (Some c.in-Ok-Some.leaf) f.pages (c.leaves.invariant.own told)
    (subst (λ (o : Option ℕ). IfSome o (HasRead form (g.P.Pages.pages c.leaves.pages) (g.P.Pages.asked c.leaves.pages) (g.P.Pages.asked c.first_at.new.pages) (number c.first_at.new.found, c.first_at.new.value))) c.in-Ok-Some.field-0-is
    (c.in-Ok-Some.ensures.read there))

pub returns-in-Ok-Some-clause-kept : goal.returns-in-Ok-Some-clause-kept
returns-in-Ok-Some-clause-kept g c = λ told.
    let f = c.leaves.invariant.frame in
    let form : Form = c.args.form in
    let old : PageMap = g.P.Pages.pages c.args.pages.now in
    let count : ℕ = g.P.Pages.count c.args.pages.now in
    let root : ℕ = c.args.root in
    let here = number (take form.key c.leaves.from) in
    let high = high_of form c.first_at.new.bounds in
    let row : Row = (number c.first_at.new.found, c.first_at.new.value) in
    let there : AreReadable (g.P.Pages.pages c.leaves.pages) (g.P.Pages.count c.leaves.pages) = rw (f.pages, f.count) told in
    let hit : IsFirstThere form (g.P.Pages.pages c.leaves.pages) (g.P.Pages.count c.leaves.pages) root here high (Some row) =
    subst (λ (o : Option ℕ). IsFirstThere form (g.P.Pages.pages c.leaves.pages) (g.P.Pages.count c.leaves.pages) root here high (if is_some o then Some row else None)) c.in-Ok-Some.field-0-is (c.in-Ok-Some.ensures.way there) in
    let mine : IsFirstThere form old count root here high (Some row) =
    subst (λ (n : ℕ). IsFirstThere form old n root here high (Some row)) f.count (subst (λ (x : PageMap). IsFirstThere form x (g.P.Pages.count c.leaves.pages) root here high (Some row)) f.pages hit) in
    c.leaves.invariant.first told (Some row) [] (high, mine, λ e. absurd (cc))

pub returns-then-is_empty-clause-kept : goal.returns-then-is_empty-clause-kept
returns-then-is_empty-clause-kept g c = λ told.
    let f = c.leaves.invariant.frame in
    let form : Form = c.args.form in
    let old : PageMap = g.P.Pages.pages c.args.pages.now in
    let count : ℕ = g.P.Pages.count c.args.pages.now in
    let root : ℕ = c.args.root in
    let here = number (take form.key c.leaves.from) in
    let high = high_of form c.first_at.new.bounds in
    let empty : length c.high-high.result.now ≡ 0 = grind (arith, nat_tests) in
    let last : high ≡ 256 ^ form.key = upper-none form.key (take c.first_at.new.bounds.top c.first_at.new.bounds.high) (ap length (sym c.high-high.ensures.is) ∙ empty) in
    let there : AreReadable (g.P.Pages.pages c.leaves.pages) (g.P.Pages.count c.leaves.pages) = rw (f.pages, f.count) told in
    let none : IsFirstThere form (g.P.Pages.pages c.leaves.pages) (g.P.Pages.count c.leaves.pages) root here high None =
    subst (λ (o : Option ℕ). IsFirstThere form (g.P.Pages.pages c.leaves.pages) (g.P.Pages.count c.leaves.pages) root here high (if is_some o then Some (number c.first_at.new.found, c.first_at.new.value) else None)) c.in-Ok-None.field-0-is (c.in-Ok-None.ensures.way there) in
    let mine : IsFirstThere form old count root here high None =
    subst (λ (n : ℕ). IsFirstThere form old n root here high None) f.count (subst (λ (x : PageMap). IsFirstThere form x (g.P.Pages.count c.leaves.pages) root here high None) f.pages none) in
    c.leaves.invariant.first told None [] (high, mine, λ e. last)

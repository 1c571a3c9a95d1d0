use Rattle.std.proofs.Common.{◌≡◌, ℕ, Bool, true, false, nat_lt, ◌==◌, ◌||◌, ◌&&◌, arith, sym, ◌∙◌}
use Rattle.std.proofs.lemmas.Bool.Decides.{nat_tests}
use Rattle.split_policy.specs.Quadratic.{is_preferred}
use Rattle.split_policy.proofs.group.Group.is_preferred.Goals as goal

-- two numbers are less in their order
abbrev less_two : ℕ → ℕ → ℕ → ℕ → Bool
less_two g h a b = nat_lt g h || ((g == h) && nat_lt a b)

-- three numbers are less in their order
abbrev less_three : ℕ → ℕ → ℕ → ℕ → ℕ → ℕ → Bool
less_three g h a b s t = nat_lt g h || ((g == h) && (nat_lt a b || ((a == b) && nat_lt s t)))

-- the first two decide
decided : (g h a b s t : ℕ) → less_two g h a b ≡ true → true ≡ less_three g h a b s t
decided g h a b s t e = grind (arith, nat_tests)

-- the third decides
equal : (g h a b s t : ℕ) → ((g == h) && (a == b)) ≡ true → nat_lt s t ≡ less_three g h a b s t
equal g h a b s t e = grind (arith, nat_tests)

-- the first two decide against it
decided_against : (g h a b s t : ℕ) → less_two g h a b ≡ false → ((g == h) && (a == b)) ≡ false → false ≡ less_three g h a b s t
decided_against g h a b s t e f = grind (arith, nat_tests)

pub returns-then-is_less : goal.returns-then-is_less
unfolding is_preferred
returns-then-is_less c =
    let here = c.of-here.result in
    let there = c.of-there.result in
    rw (← c.of-here.ensures.gained, ← c.of-there.ensures.gained, ← c.of-here.ensures.had, ← c.of-there.ensures.had)
    (c.if-is_less.true ∙ decided here.gained there.gained here.had there.had c.args.self.now.count c.args.other.now.count (sym c.is_less.ensures ∙ c.if-is_less.true))

pub returns-then-eq : goal.returns-then-eq
unfolding is_preferred
returns-then-eq c =
    let here = c.of-here.result in
    let there = c.of-there.result in
    rw (← c.of-here.ensures.gained, ← c.of-there.ensures.gained, ← c.of-here.ensures.had, ← c.of-there.ensures.had)
    (equal here.gained there.gained here.had there.had c.args.self.now.count c.args.other.now.count (sym c.eq.ensures ∙ c.if-eq.true))

pub returns-else-eq : goal.returns-else-eq
unfolding is_preferred
returns-else-eq c =
    let here = c.of-here.result in
    let there = c.of-there.result in
    rw (← c.of-here.ensures.gained, ← c.of-there.ensures.gained, ← c.of-here.ensures.had, ← c.of-there.ensures.had)
    (c.if-eq.false ∙ decided_against here.gained there.gained here.had there.had c.args.self.now.count c.args.other.now.count (sym c.is_less.ensures ∙ c.if-is_less.false) (sym c.eq.ensures ∙ c.if-eq.false))

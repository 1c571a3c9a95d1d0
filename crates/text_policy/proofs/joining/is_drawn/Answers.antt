use Rattle.std.proofs.Common.{◌≡◌, ◌≢◌, ℕ, ◌<◌, Bool, nat_lt, ◌==◌, ◌||◌, ◌&&◌, arith}
use Rattle.std.proofs.lemmas.Bool.Decides.{nat_tests}
use Rattle.split_policy.specs.Areas.{growth_of}
use Rattle.text_policy.specs.Splits.{is_drawn}
use Rattle.text_policy.proofs.joining.is_drawn.Goals as goal

-- three pairs of numbers in their order: s and m, then g and h, then a and b
abbrev less_three : ℕ → ℕ → ℕ → ℕ → ℕ → ℕ → Bool
less_three s m g h a b = nat_lt s m || ((s == m) && (nat_lt g h || ((g == h) && nat_lt a b)))

-- the first decides
by_words : (s m g h a b : ℕ) → (s ≢ m) → nat_lt s m ≡ less_three s m g h a b
by_words s m g h a b ne = grind (arith, nat_tests)

-- the second decides
by_growth : (s m g h a b : ℕ) → s ≡ m → g < h → nat_lt g h ≡ less_three s m g h a b
by_growth s m g h a b e less = grind (arith, nat_tests)

-- the third decides
by_count : (s m g h a b : ℕ) → s ≡ m → g ≡ h → nat_lt a b ≡ less_three s m g h a b
by_count s m g h a b e same = grind (arith, nat_tests)

-- the second decides against it
by_greater : (s m g h a b : ℕ) → s ≡ m → h < g → (g == h) ≡ less_three s m g h a b
by_greater s m g h a b e more = grind (arith, nat_tests)

pub returns-then-staying-moving : goal.returns-then-staying-moving
unfolding is_drawn
returns-then-staying-moving c =
    let d = c.args.division.now in
    let r = c.args.rect.now in
    let t = c.if-staying-moving.true in
    by_words c.args.staying c.args.moving (growth_of d.moving.bounds r) (growth_of d.staying.bounds r) d.moving.count d.staying.count
    (grind (arith, nat_tests))

pub returns-then-if_moving-if_staying : goal.returns-then-if_moving-if_staying
unfolding is_drawn
returns-then-if_moving-if_staying c =
    let e = c.if-staying-moving.false in
    let t = c.if-if_moving-if_staying.true in
    rw (← c.of-if_staying.ensures.gained, ← c.of-if_moving.ensures.gained)
    (by_growth c.args.staying c.args.moving c.of-if_moving.result.gained c.of-if_staying.result.gained _ _ (grind (arith, nat_tests)) (grind (arith, nat_tests)))

pub returns-then-if_moving-if_staying-2 : goal.returns-then-if_moving-if_staying-2
unfolding is_drawn
returns-then-if_moving-if_staying-2 c =
    let e = c.if-staying-moving.false in
    let t = c.if-if_moving-if_staying-2.true in
    rw (← c.of-if_staying.ensures.gained, ← c.of-if_moving.ensures.gained)
    (by_count c.args.staying c.args.moving c.of-if_moving.result.gained c.of-if_staying.result.gained _ _ (grind (arith, nat_tests)) (grind (arith, nat_tests)))

pub returns-else-if_moving-if_staying-2 : goal.returns-else-if_moving-if_staying-2
unfolding is_drawn
returns-else-if_moving-if_staying-2 c =
    let e = c.if-staying-moving.false in
    let t = c.if-if_moving-if_staying.false in
    let u = c.if-if_moving-if_staying-2.false in
    rw (← c.of-if_staying.ensures.gained, ← c.of-if_moving.ensures.gained)
    (by_greater c.args.staying c.args.moving c.of-if_moving.result.gained c.of-if_staying.result.gained _ _ (grind (arith, nat_tests)) (grind (arith, nat_tests)))

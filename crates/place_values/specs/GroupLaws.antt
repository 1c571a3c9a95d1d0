-- What is known of the least of some choices.
use Rattle.std.proofs.Common.{◌≡◌, ℕ, ◌+◌, ◌<◌, ◌≤◌, max, Bool, true, false, cond, List, [], ◌∷◌, ◌++◌, map, fold, take, length, get_or, ◌-◌, Vec, Option, Some, None, refl, sym, ap, subst, ◌∙◌, arith}
use Rattle.std.specs.List.{AllByRecursion, flat_map}
use Rattle.std.specs.declared.cmp.Ordering.{Ordering}
use Rattle.std.specs.declared.cmp.Ordering.TheVariants.{Less, Equal, Greater}
use Rattle.std.specs.Cmp.{IsTotalOrder}
use Rattle.std.specs.Cmp.Lexicographic.{slice_cmp, nat_list_cmp_total}
use Rattle.std.specs.Ordering.{nat_cmp, int_cmp, is_lt, is_gt, ordering_then}
use Rattle.std.specs.FinMap.{nat_cmp-IsAntisymmetric, int_cmp-IsAntisymmetric, slice_cmp-IsAntisymmetric}
use Rattle.std.proofs.lemmas.Bool.{false≢true}
use Rattle.std.proofs.lemmas.Cmp.{ranked, then_total, on_total, nat_cmp_total, int_cmp_total, lists_total}
use Rattle.std.proofs.lemmas.List.{append-nil, append_assoc, map-append, take_more, length-append, take_all}
use Rattle.std.proofs.lemmas.List.Concat.{flat_map-append}
use Rattle.std.proofs.Math.Seq.{take-append_seam}
use Rattle.std.specs.declared.alloc.Global.{Global}
use Rattle.std.proofs.lemmas.List.Sums.{fold-append}
use Rattle.spatial_base.specs.Key.{key_cmp, key_cmp_total, key_cmp_same, both_tie}
use Rattle.spatial_base.specs.Point.{Viewpoint, seen_from, distance}
use Rattle.place_values.specs.First.{IsLinear, placed, first}
use Rattle.place_values.specs.Laws.{linear_from_total, first_push}
use Rattle.place_values.specs.declared.query.Pick.{Pick}
use Rattle.place_values.specs.declared.query.Chosen.{Chosen}
use Rattle.place_values.specs.Group.{product, farthest, diameter, choice_cost, pick_cmp, price_cmp, is_less, head_by, least_by}
use Rattle.place_values.specs.Search.{lists_in, fronted}

pub pick_cmp_total : IsTotalOrder pick_cmp
pick_cmp_total =
    then_total (on_total (λ (p : Pick). p.key) key_cmp_total)
    (then_total (on_total (λ (p : Pick). p.word) nat_list_cmp_total)
    (then_total (on_total (λ (p : Pick). p.dist) nat_cmp_total)
    (then_total (on_total (λ (p : Pick). p.point.x) int_cmp_total) (on_total (λ (p : Pick). p.point.y) int_cmp_total))))

-- only the same pick ties
pub pick_cmp_same : (x y : Pick) → pick_cmp x y ≡ Equal → x ≡ y
pick_cmp_same x y h =
    let point = ordering_then (int_cmp x.point.x y.point.x) (int_cmp x.point.y y.point.y) in
    let dist = ordering_then (nat_cmp x.dist y.dist) point in
    let word = ordering_then (slice_cmp nat_cmp x.word y.word) dist in
    let a = both_tie (key_cmp x.key y.key) word h in
    let b = both_tie (slice_cmp nat_cmp x.word y.word) dist a.1 in
    let c = both_tie (nat_cmp x.dist y.dist) point b.1 in
    let d = both_tie (int_cmp x.point.x y.point.x) (int_cmp x.point.y y.point.y) c.1 in
    let p = key_cmp_same x.key y.key a.0 in
    let q = slice_cmp-IsAntisymmetric nat_cmp-IsAntisymmetric x.word y.word b.0 in
    let r = nat_cmp-IsAntisymmetric x.dist y.dist c.0 in
    let s = int_cmp-IsAntisymmetric x.point.x y.point.x d.0 in
    let t = int_cmp-IsAntisymmetric x.point.y y.point.y d.1 in
    λ i. record { key = p i; word = q i; dist = r i; point = record { x = s i; y = t i } }

-- choices have one order
pub choices_linear : (price : List Pick → ℕ) → IsLinear (is_less price)
choices_linear price =
    linear_from_total
    (then_total (on_total price nat_cmp_total) (lists_total pick_cmp_total))
    (λ a b e. slice_cmp-IsAntisymmetric pick_cmp_same a b (both_tie (nat_cmp (price a) (price b)) (slice_cmp pick_cmp a b) e).1)

-- a choice with its cost
abbrev costed : (List Pick → ℕ) → List Pick → Chosen
costed price picks = record { cost = price picks; picks = picks }

-- the better of a choice and the best so far
abbrev pub better_of : (List Pick → ℕ) → List Pick → Option Chosen → Option Chosen
better_of price picks None = Some (costed price picks)
better_of price picks (Some best) = cond (is_less price picks best.picks) (Some (costed price picks)) (Some best)

placed_go : (price : List Pick → ℕ) (picks x : List Pick) (a b : Bool) → is_less price x picks ≡ a → is_less price picks x ≡ b → cond a (Some (costed price x)) (Some (costed price picks)) ≡ cond b (Some (costed price picks)) (Some (costed price x))
placed_go price picks x true true p q = absurd (false≢true (sym ((choices_linear price).one_way x picks p) ∙ q))
placed_go price picks x true false p q = refl
placed_go price picks x false true p q = refl
placed_go price picks x false false p q = ap (λ c. Some (costed price c)) ((choices_linear price).same picks x q p)

head_placed : (price : List Pick → ℕ) (picks : List Pick) (xs : List (List Pick)) → head_by price (take 1 (placed (is_less price) picks xs)) ≡ better_of price picks (head_by price xs)
head_placed price picks [] = refl
head_placed price picks (x ∷ xs) = heads (is_less price x picks) refl ∙ placed_go price picks x _ _ refl refl
  where
    heads : (a : Bool) → is_less price x picks ≡ a → head_by price (take 1 (placed (is_less price) picks (x ∷ xs))) ≡ cond (is_less price x picks) (Some (costed price x)) (Some (costed price picks))
    heads true p = rw p refl
    heads false p = rw p refl

-- one more choice
pub least_push : (price : List Pick → ℕ) (tried : List (List Pick)) (picks : List Pick) → least_by price (tried ++ picks ∷ []) ≡ better_of price picks (least_by price tried)
least_push price tried picks =
    ap (head_by price) (first_push (choices_linear price) 1 tried picks) ∙ head_placed price picks (first (is_less price) 1 tried)

-- choices that aren't better change nothing
pub least_kept : (price : List Pick → ℕ) (tried more : List (List Pick)) (best : Chosen) → least_by price tried ≡ Some best → AllByRecursion (λ picks. is_less price picks best.picks ≡ false) more → least_by price (tried ++ more) ≡ Some best
least_kept price tried [] best is h = ap (least_by price) (append-nil tried) ∙ is
least_kept price tried (picks ∷ more) best is h =
    let pushed : least_by price (tried ++ picks ∷ []) ≡ Some best =
    least_push price tried picks ∙ ap (better_of price picks) is ∙ rw h.0 refl in
    ap (least_by price) (sym (append_assoc tried (picks ∷ []) more)) ∙ least_kept price (tried ++ picks ∷ []) more best pushed h.1

-- the least choice has its own cost
pub least_cost : (price : List Pick → ℕ) (tried : List (List Pick)) (best : Chosen) → least_by price tried ≡ Some best → best.cost ≡ price best.picks
least_cost price tried best is = head_cost (first (is_less price) 1 tried) is
  where
    head_cost : (xs : List (List Pick)) → head_by price xs ≡ Some best → best.cost ≡ price best.picks
    head_cost [] e = absurd (cc)
    head_cost (x ∷ xs) e = let same : costed price x ≡ best = cc in subst (λ (c : Chosen). c.cost ≡ price c.picks) same refl

most_from : (f : Pick → ℕ) (a : ℕ) (xs : List Pick) → fold (λ m p. max m (f p)) a xs ≡ max a (fold (λ m p. max m (f p)) 0 xs)
most_from f a [] = omega arith
most_from f a (x ∷ xs) = omega (arith, most_from f (max a (f x)) xs, most_from f (max 0 (f x)) xs)

farthest_front : (from : Viewpoint) (xs ys : List Pick) → farthest from xs ≤ farthest from (xs ++ ys)
farthest_front from xs ys = omega (arith, fold-append (λ m (p : Pick). max m (distance from p.point)) 0 xs ys, most_from (λ p. distance from p.point) (farthest from xs) ys)

diameter_front : (scale : ℕ) (xs ys : List Pick) → diameter scale xs ≤ diameter scale (xs ++ ys)
diameter_front scale [] ys = omega arith
diameter_front scale (x ∷ xs) ys = omega (arith, farthest_front (seen_from x.point scale) xs ys, diameter_front scale xs ys)

-- what goes on from a front never costs less
abbrev pub IsRising : (List Pick → ℕ) → Type 0
IsRising price = (xs ys : List Pick) → price xs ≤ price (xs ++ ys)

-- a front never costs more than a choice that completes it
pub cost_front : (at : Viewpoint) (xs ys : List Pick) → choice_cost at xs ≤ choice_cost at (xs ++ ys)
cost_front at xs ys = omega (arith, farthest_front at xs ys, diameter_front at.scale xs ys)

list_go : (x y : Pick) (front rest b : List Pick) (o : Ordering) → o ≡ pick_cmp x y → ordering_then o (slice_cmp pick_cmp front b) ≡ Greater → (slice_cmp pick_cmp front b ≡ Greater → slice_cmp pick_cmp (front ++ rest) b ≡ Greater) → ordering_then o (slice_cmp pick_cmp (front ++ rest) b) ≡ Greater
list_go x y front rest b Less e h ih = absurd (cc)
list_go x y front rest b Equal e h ih = ih h
list_go x y front rest b Greater e h ih = refl

-- what completes a greater front is greater
list_greater : (front rest b : List Pick) → slice_cmp pick_cmp front b ≡ Greater → slice_cmp pick_cmp (front ++ rest) b ≡ Greater
list_greater [] rest [] h = absurd (cc)
list_greater [] rest (y ∷ b) h = absurd (cc)
list_greater (x ∷ front) rest [] h = refl
list_greater (x ∷ front) rest (y ∷ b) h = list_go x y front rest b (pick_cmp x y) refl h (list_greater front rest b)

cost_go : (m n c : ℕ) (k l : Ordering) (o q : Ordering) → m ≤ n → o ≡ nat_cmp m c → q ≡ nat_cmp n c → ordering_then o k ≡ Greater → (k ≡ Greater → l ≡ Greater) → is_lt (ordering_then q l) ≡ false
cost_go m n c k l Less q le e f h g = absurd (cc)
cost_go m n c k l o Greater le e f h g = refl
cost_go m n c k l Equal Equal le e f h g = ap is_lt (g h)
cost_go m n c k l Equal Less le e f h g = absurd (let a = ranked m c Equal e in let b = ranked n c Less f in omega arith)
cost_go m n c k l Greater Equal le e f h g = absurd (let a = ranked m c Greater e in let b = ranked n c Equal f in omega arith)
cost_go m n c k l Greater Less le e f h g = absurd (let a = ranked m c Greater e in let b = ranked n c Less f in omega arith)

-- what completes a front that comes after a choice isn't cheaper than that choice
pub front_hopeless : (price : List Pick → ℕ) → IsRising price → (front rest best : List Pick) → price_cmp price front best ≡ Greater → is_less price (front ++ rest) best ≡ false
front_hopeless price rises front rest best h =
    cost_go (price front) (price (front ++ rest)) (price best) (slice_cmp pick_cmp front best) (slice_cmp pick_cmp (front ++ rest) best) _ _ (rises front rest) refl refl h (list_greater front rest best)

-- the same for all that complete it
pub all_hopeless : (price : List Pick → ℕ) → IsRising price → (front best : List Pick) (lists : List (List Pick)) → price_cmp price front best ≡ Greater → AllByRecursion (λ picks. is_less price picks best ≡ false) (fronted front lists)
all_hopeless price rises front best [] h = tt
all_hopeless price rises front best (rest ∷ lists) h = (front_hopeless price rises front rest best h, all_hopeless price rises front best lists h)

fronted_cons : (front : List Pick) (x : Pick) (lists : List (List Pick)) → fronted front (map (λ others. x ∷ others) lists) ≡ fronted (front ++ x ∷ []) lists
fronted_cons front x [] = refl
fronted_cons front x (l ∷ lists) = let head = append_assoc front (x ∷ []) l in let tail = fronted_cons front x lists in cc

-- a front, and a product behind it: each member of the first list goes on the front
pub fronted_product : (front xs : List Pick) (rest : List (List Pick)) → fronted front (product (xs ∷ rest)) ≡ flat_map (λ x. fronted (front ++ x ∷ []) (product rest)) xs
fronted_product front [] rest = refl
fronted_product front (x ∷ xs) rest =
    map-append (λ others. front ++ others) (map (λ others. x ∷ others) (product rest)) (product (xs ∷ rest))
    ∙ ap (λ l. l ++ fronted front (product (xs ∷ rest))) (fronted_cons front x (product rest))
    ∙ ap (λ l. fronted (front ++ x ∷ []) (product rest) ++ l) (fronted_product front xs rest)

-- nothing in front
pub fronted_none : (lists : List (List Pick)) → fronted [] lists ≡ lists
fronted_none [] = refl
fronted_none (l ∷ lists) = ap (λ more. l ∷ more) (fronted_none lists)

is_greater : (o : Ordering) → is_gt o ≡ true → o ≡ Greater
is_greater Greater h = refl
is_greater Less h = absurd (cc)
is_greater Equal h = absurd (cc)

-- comparing a choice's cost and picks with the least one's compares the choices
compared : (price : List Pick → ℕ) (tried : List (List Pick)) (picks : List Pick) (cost : ℕ) (best : Chosen) → least_by price tried ≡ Some best → cost ≡ price picks → ordering_then (nat_cmp cost best.cost) (slice_cmp pick_cmp picks best.picks) ≡ price_cmp price picks best.picks
compared price tried picks cost best is costs =
    ap (λ n. ordering_then (nat_cmp n best.cost) (slice_cmp pick_cmp picks best.picks)) costs
    ∙ ap (λ n. ordering_then (nat_cmp (price picks) n) (slice_cmp pick_cmp picks best.picks)) (least_cost price tried best is)

-- a front that comes after the least choice: what completes it changes nothing
pub hopeless_kept : (price : List Pick → ℕ) → IsRising price → (front : List Pick) (cost : ℕ) (least : Option Chosen) (best : Chosen) (o : Ordering) (tried rest : List (List Pick)) → least ≡ Some best → o ≡ ordering_then (nat_cmp cost best.cost) (slice_cmp pick_cmp front best.picks) → is_gt o ≡ true → cost ≡ price front → least ≡ least_by price tried → least ≡ least_by price (tried ++ fronted front rest)
hopeless_kept price rises front cost least best o tried rest is compares gt costs was =
    let known : least_by price tried ≡ Some best = sym was ∙ is in
    let after : price_cmp price front best.picks ≡ Greater = sym (compared price tried front cost best known costs) ∙ sym compares ∙ is_greater o gt in
    is ∙ sym (least_kept price tried (fronted front rest) best known (all_hopeless price rises front best.picks rest after))

-- a choice of this cost
abbrev pub with_cost : ℕ → List Pick → Option Chosen
with_cost cost picks = Some record { cost = cost; picks = picks }

-- the first choice is the least
pub pushed_first : (price : List Pick → ℕ) (picks : List Pick) (cost : ℕ) (least : Option Chosen) (tried : List (List Pick)) → least ≡ None → cost ≡ price picks → least ≡ least_by price tried → least_by price (tried ++ picks ∷ []) ≡ with_cost cost picks
pushed_first price picks cost least tried is costs was =
    least_push price tried picks ∙ ap (better_of price picks) (sym was ∙ is) ∙ ap (λ n. with_cost n picks) (sym costs)

-- another is it where it comes before the least so far
pub pushed_next : (price : List Pick → ℕ) (picks : List Pick) (cost : ℕ) (least : Option Chosen) (best : Chosen) (o : Ordering) (tried : List (List Pick)) → least ≡ Some best → o ≡ ordering_then (nat_cmp cost best.cost) (slice_cmp pick_cmp picks best.picks) → cost ≡ price picks → least ≡ least_by price tried → least_by price (tried ++ picks ∷ []) ≡ cond (is_lt o) (with_cost cost picks) least
pushed_next price picks cost least best o tried is compares costs was =
    let known : least_by price tried ≡ Some best = sym was ∙ is in
    let cheaper : is_less price picks best.picks ≡ is_lt o = ap is_lt (sym (compared price tried picks cost best known costs) ∙ sym compares) in
    least_push price tried picks ∙ ap (better_of price picks) known
    ∙ ap (λ t. cond t (Some (costed price picks)) (Some best)) cheaper
    ∙ ap (λ n. cond (is_lt o) (with_cost n picks) (Some best)) (sym costs)
    ∙ ap (λ l. cond (is_lt o) (with_cost cost picks) l) (sym is)

-- all that goes on from a front by one of some picks, and behind it by one of each list
abbrev pub gone_on : List Pick → List (List Pick) → List Pick → List (List Pick)
gone_on front others picks = flat_map (λ pick. fronted (front ++ pick ∷ []) (product others)) picks

-- one more pick tried
pub tried_more : (price : List Pick → ℕ) (tried : List (List Pick)) (front longer : List Pick) (others : List (List Pick)) (picks : List Pick) (i : ℕ) (d : Pick) (least : Option Chosen) → i < length picks → longer ≡ front ++ get_or picks i d ∷ [] → least ≡ least_by price ((tried ++ gone_on front others (take i picks)) ++ fronted longer (product others)) → least ≡ least_by price (tried ++ gone_on front others (take (i + 1) picks))
tried_more price tried front longer others picks i d least below is was =
    let here : List (List Pick) = fronted (front ++ get_or picks i d ∷ []) (product others) in
    let more : gone_on front others (take (i + 1) picks) ≡ gone_on front others (take i picks) ++ here =
    ap (gone_on front others) (take_more picks i d below)
    ∙ flat_map-append (λ pick. fronted (front ++ pick ∷ []) (product others)) (take i picks) (get_or picks i d ∷ [])
    ∙ ap (λ l. gone_on front others (take i picks) ++ l) (append-nil here) in
    was
    ∙ ap (λ f. least_by price ((tried ++ gone_on front others (take i picks)) ++ fronted f (product others))) is
    ∙ ap (least_by price) (append_assoc tried (gone_on front others (take i picks)) here ∙ ap (λ l. tried ++ l) (sym more))

-- all picks tried
pub all_tried : (price : List Pick → ℕ) (tried : List (List Pick)) (front : List Pick) (lists : List (Vec Pick Global)) (list : Vec Pick Global) (others : List (Vec Pick Global)) (picks : List Pick) (n : ℕ) (least : Option Chosen) → lists ≡ list ∷ others → picks ≡ list.items → length picks ≤ n → least ≡ least_by price (tried ++ gone_on front (lists_in others) (take n picks)) → least ≡ least_by price (tried ++ fronted front (product (lists_in lists)))
all_tried price tried front lists list others picks n least is same all was =
    was
    ∙ ap (λ l. least_by price (tried ++ gone_on front (lists_in others) l)) (take_all n picks all ∙ same)
    ∙ ap (λ l. least_by price (tried ++ l)) (sym (fronted_product front list.items (lists_in others)))
    ∙ ap (λ l. least_by price (tried ++ fronted front (product (lists_in l)))) (sym is)

-- a pick is taken back
pub popped : (n : ℕ) (old new front : List Pick) (x : Pick) → n ≡ length old → new ≡ take (n - 1) old → old ≡ front ++ x ∷ [] → new ≡ front
popped n old new front x l e f =
    let m : n - 1 ≡ length front = omega (arith, l, ap length f, length-append front (x ∷ [])) in
    e ∙ ap (λ n. take n old) m ∙ ap (take (length front)) f ∙ take-append_seam front (x ∷ [])

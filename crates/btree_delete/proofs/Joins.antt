-- Two neighbouring pages that share their cells.
use Rattle.std.proofs.Common.{◌≡◌, ℕ, zero, suc, ◌+◌, ◌-◌, ◌*◌, ◌/◌, ◌^◌, ◌<◌, ◌≤◌, List, [], ◌∷◌, ◌++◌, length, take, drop, replicate, arith, refl, sym, ap, ◌∙◌, subst, append-nil, ⊎_elim}
use Rattle.std.proofs.lemmas.Bool.{cases_lt}
use Rattle.std.proofs.lemmas.List.{length-drop, length-append, length-replicate, length-take-le, take_rest}
use Rattle.std.proofs.Math.Nat.{mul-le-mul_left, mul-le-mul_right, mul-div-le}
use Rattle.page_face.specs.FreeList.{PageMap}
use Rattle.page_face.specs.Number.{number}
use Rattle.btree_nodes.specs.Build.{image}
use Rattle.btree_nodes.specs.declared.form.Form.{Form}
use Rattle.btree_nodes.specs.Supply.{View, spare_in, one_at}
use Rattle.btree_nodes.specs.Rows.{Row}
use Rattle.btree_nodes.specs.Nodes.{width_of, half_of, half_of_width}
use Rattle.btree_nodes.specs.Tree.{rows_at}
use Rattle.btree_nodes.proofs.Supplies.{moves-beside, moves-as}
use Rattle.btree_delete.specs.Body.{kind_of, IsBody, body_rows, body_uses, cleared}
use Rattle.btree_delete.specs.Mended.{IsMerged, IsHalved, Becomes}
use Rattle.btree_delete.proofs.Bodies.{SameBody, body-frame, tree-of, body-lt, body-cut}

-- a cell has some bytes, and at most 1,020
pub width-some : (form : Form) (level : ℕ) → 1 ≤ width_of form level × width_of form level ≤ 1020
width-some form zero = let a = form.some in let b = form.fits in (omega arith, omega arith)
width-some form (suc level) = let a = form.some in let b = form.short in (omega arith, omega arith)

-- cells that fit are few
pub few : (width count : ℕ) → 1 ≤ width → width * count ≤ 4096 → count ≤ 4096
few width count some fits = let m = mul-le-mul_right {m = 1} {n = width} count some in omega arith

module _ (form : Form) (before : View) (new : PageMap) (count' first' level left right low high n : ℕ) (bytes : List ℕ)
    (others : (k : ℕ) → one_at left k + one_at right k ≡ 0 → spare_in before k ≡ 0 → new k ≡ before.pages k)
    (body : IsBody form before.pages level low high n bytes)
    (once : (k : ℕ) → one_at left k + one_at right k + body_uses form before.pages level n bytes k + spare_in before k ≤ 1) where
  pub stays : SameBody form before.pages new level low high n bytes
  stays = body-frame form before.pages new level low high n bytes body (λ k l. let o = once k in others k (omega arith) (omega arith))

  pub merged-becomes : IsMerged before new count' first' left right (image form.map (kind_of level) level n bytes)
      → 0 < n → half_of form level ≤ n → n < 2 ^ 16 → length bytes ≡ width_of form level * n → 16 + length bytes ≤ 4096
      → Becomes form (half_of form level) before (λ k. one_at left k + one_at right k + body_uses form before.pages level n bytes k) new count' first' level low high (body_rows form before.pages level n bytes) ((low, left) ∷ [])
  merged-becomes merged some enough small whole fits =
      let t = tree-of form (half_of form level) new level left low high n bytes merged.here some enough small whole fits stays.body in
      record {
        free = merged.free;
        moves = moves-as (λ k. refl) (λ k. let a = t.used k in let b = stays.used k in omega arith) (moves-beside (body_uses form before.pages level n bytes) merged.moves);
        fan = (refl, body-lt form before.pages level low high n bytes some body, t.tree, refl);
        gives = append-nil (rows_at form new level left) ∙ t.gives ∙ stays.rows;
      }

-- to write zeros for the first key keeps the length
pub length-cleared : (form : Form) (level rest : ℕ) (x : List ℕ) → length x ≡ width_of form level * suc rest → length (cleared level form.key x) ≡ width_of form level * suc rest
length-cleared form zero rest x h = h
length-cleared form (suc level) rest x h =
    let wide = mul-le-mul_left {m = 1} {n = suc rest} (form.key + 4) (omega arith) in
    omega (arith, length-append (replicate form.key 0) (drop form.key x), length-replicate {A = ℕ} form.key 0, length-drop form.key x)

-- half of the cells of two pages that don't fit in one are at least half of a page
pub half-shared : (width n : ℕ) → 4080 < width * n → half_of_width width ≤ n / 2
unfolding half_of_width
half-shared width n big =
    ⊎_elim (λ l. omega arith)
    (λ g. let a = mul-le-mul_left {m = n} {n = 4080 / width} width g in
    let b : width * (4080 / width) ≤ 4080 = mul-div-le 4080 width in absurd (omega arith)) (cases_lt (4080 / width) n)

pub halved-becomes : (form : Form) (before : View) (new : PageMap) (count' first' level left right low high half rest : ℕ) (bytes : List ℕ)
    → IsBody form before.pages level low high (half + suc rest) bytes
    → ((k : ℕ) → one_at left k + one_at right k + body_uses form before.pages level (half + suc rest) bytes k + spare_in before k ≤ 1)
    → IsHalved before new count' first' left right (image form.map (kind_of level) level half (take (width_of form level * half) bytes))
    (image form.map (kind_of level) level (suc rest) (cleared level form.key (drop (width_of form level * half) bytes)))
    → 0 < half → half_of form level ≤ half → half_of form level ≤ suc rest → half < 2 ^ 16 → suc rest < 2 ^ 16 → length bytes ≡ width_of form level * (half + suc rest)
    → 16 + width_of form level * half ≤ 4096 → 16 + width_of form level * suc rest ≤ 4096
    → Becomes form (half_of form level) before (λ k. one_at left k + one_at right k + body_uses form before.pages level (half + suc rest) bytes k) new count' first' level low high
    (body_rows form before.pages level (half + suc rest) bytes) ((low, left) ∷ ((number (take form.key (drop (width_of form level * half) bytes)), right) ∷ []))
halved-becomes form before new count' first' level left right low high half rest bytes body once halved some enough enough' small small' whole fits fits' =
    let w : ℕ = width_of form level in
    let a : List ℕ = take (w * half) bytes in
    let b : List ℕ = cleared level form.key (drop (w * half) bytes) in
    let m : ℕ = number (take form.key (drop (w * half) bytes)) in
    let s = stays form before new count' first' level left right low high (half + suc rest) bytes (λ k h. halved.moves.others k h) body once in
    let cut = body-cut form new level low high half rest bytes whole some s.body in
    let order = mul-le-mul_left {m = half} {n = half + suc rest} w (omega arith) in
    let la : length a ≡ w * half = length-take-le (w * half) bytes (omega arith) in
    let ld : length (drop (w * half) bytes) ≡ w * suc rest = omega (arith, length-drop (w * half) bytes) in
    let lb : length b ≡ w * suc rest = length-cleared form level rest (drop (w * half) bytes) ld in
    let first = tree-of form (half_of form level) new level left low m half a halved.here some enough small la (omega arith) cut.front_body in
    let second = tree-of form (half_of form level) new level right m high (suc rest) b halved.there (omega arith) enough' small' lb (omega arith) cut.back_body in
    record {
      free = halved.free;
      moves = moves-as (λ k. refl) (λ k. let c = first.used k in let d = second.used k in let e = cut.used k in let f = s.used k in omega arith)
          (moves-beside (body_uses form before.pages level (half + suc rest) bytes) halved.moves);
      fan = (refl, body-lt form new level low m half a some cut.front_body, first.tree, (refl, body-lt form new level m high (suc rest) b (omega arith) cut.back_body, second.tree, refl));
      gives = ap (λ (x : List Row). rows_at form new level left ++ x) (append-nil (rows_at form new level right) ∙ second.gives) ∙ ap (λ (x : List Row). x ++ body_rows form new level (suc rest) b) first.gives
          ∙ sym cut.rows ∙ s.rows;
    }

image-as : (a a' b b' d d' n : ℕ) (x : List ℕ) → a ≡ a' → b ≡ b' → d ≡ d' → image a b d n x ≡ image a' b' d' n x
image-as a a' b b' d d' n x p q r = cc

pub merged-as : (form : Form) (before : View) (new : PageMap) (count' first' level left right n a b d : ℕ) (bytes : List ℕ) → a ≡ form.map → b ≡ kind_of level → d ≡ level
    → IsMerged before new count' first' left right (image a b d n bytes) → IsMerged before new count' first' left right (image form.map (kind_of level) level n bytes)
merged-as form before new count' first' level left right n a b d bytes p q r m =
    subst (λ (x : List ℕ). IsMerged before new count' first' left right x) (image-as a form.map b (kind_of level) d level n bytes p q r) m

pub two-parts : (width half rest count : ℕ) → half + rest ≡ count → width * half + width * rest ≡ width * count
two-parts width half rest count e = let m : width * (half + rest) ≡ width * count = ap (λ (k : ℕ). width * k) e in omega arith

-- the bytes from the middle on
pub back-length : (width w count : ℕ) (bytes : List ℕ) → w ≡ width → length bytes ≡ width * count → width * (count - count / 2) ≤ 4080
    → 16 + length (take (length bytes - w * (count / 2)) (drop (w * (count / 2)) bytes)) ≤ 4096
back-length width w count bytes e whole fits =
    let p = two-parts width (count / 2) (count - count / 2) count (omega arith) in
    let same : w * (count / 2) ≡ width * (count / 2) = ap (λ (k : ℕ). k * (count / 2)) e in
    let l : length (take (length bytes - w * (count / 2)) (drop (w * (count / 2)) bytes)) ≡ length bytes - w * (count / 2) = ap length (take_rest bytes (w * (count / 2))) ∙ length-drop (w * (count / 2)) bytes in
    omega arith

module _ (form : Form) (before : View) (new : PageMap) (count' first' level left right low high count a b d w : ℕ) (bytes front back mid : List ℕ)
    (p : a ≡ form.map) (q : b ≡ kind_of level) (r : d ≡ level) (s : w ≡ width_of form level)
    (halved : IsHalved before new count' first' left right (image a b d (count / 2) front) (image a b d (count - count / 2) back))
    (front-is : front ≡ take (w * (count / 2)) bytes) (back-is : back ≡ cleared level form.key (drop (w * (count / 2)) bytes)) (mid-is : mid ≡ take form.key (drop (w * (count / 2)) bytes))
    (some : 2 ≤ count) (big : 4080 < width_of form level * count) (fits : width_of form level * (count - count / 2) ≤ 4080) (whole : length bytes ≡ width_of form level * count)
    (body : IsBody form before.pages level low high count bytes)
    (once : (k : ℕ) → one_at left k + one_at right k + body_uses form before.pages level count bytes k + spare_in before k ≤ 1) where
  -- more than fit in one page, in halves
  pub halved-as : Becomes form (half_of form level) before (λ k. one_at left k + one_at right k + body_uses form before.pages level count bytes k) new count' first' level low high
      (body_rows form before.pages level count bytes) ((low, left) ∷ ((number mid, right) ∷ []))
  halved-as =
      let half : ℕ = count / 2 in
      let rest : ℕ = count - half - 1 in
      let v : ℕ = width_of form level in
      let sum : half + suc rest ≡ count = omega arith in
      let e : count - count / 2 ≡ suc rest = omega arith in
      let ws = width-some form level in
      let less = mul-le-mul_left {m = half} {n = count - count / 2} v (omega arith) in
      let more : v * suc rest ≤ 4080 = subst (λ (k : ℕ). v * k ≤ 4080) e fits in
      let n1 = few v half (omega arith) (omega arith) in
      let n2 = few v (suc rest) (omega arith) (omega arith) in
      let enough = half-shared v count big in
      let at : w * half ≡ v * half = ap (λ (k : ℕ). k * half) s in
      let f : image a b d half front ≡ image form.map (kind_of level) level half (take (v * half) bytes) =
      image-as a form.map b (kind_of level) d level half front p q r ∙ ap (image form.map (kind_of level) level half) (front-is ∙ ap (λ (k : ℕ). take k bytes) at) in
      let g : image a b d (count - count / 2) back ≡ image form.map (kind_of level) level (suc rest) (cleared level form.key (drop (v * half) bytes)) =
      image-as a form.map b (kind_of level) d level (count - count / 2) back p q r ∙ ap (image form.map (kind_of level) level (count - count / 2)) (back-is ∙ ap (λ (k : ℕ). cleared level form.key (drop k bytes)) at)
      ∙ ap (λ (k : ℕ). image form.map (kind_of level) level k (cleared level form.key (drop (v * half) bytes))) e in
      let h : IsHalved before new count' first' left right (image form.map (kind_of level) level half (take (v * half) bytes)) (image form.map (kind_of level) level (suc rest) (cleared level form.key (drop (v * half) bytes))) =
      subst (λ (x : List ℕ). IsHalved before new count' first' left right x (image form.map (kind_of level) level (suc rest) (cleared level form.key (drop (v * half) bytes)))) f
      (subst (λ (x : List ℕ). IsHalved before new count' first' left right (image a b d half front) x) g halved) in
      let made = halved-becomes form before new count' first' level left right low high half rest bytes
      (subst (λ (k : ℕ). IsBody form before.pages level low high k bytes) (sym sum) body)
      (subst (λ (x : ℕ). (k : ℕ) → one_at left k + one_at right k + body_uses form before.pages level x bytes k + spare_in before k ≤ 1) (sym sum) once)
      h (omega arith) enough (omega arith) (omega arith) (omega arith) (whole ∙ ap (λ (k : ℕ). v * k) (sym sum)) (omega arith) (omega arith) in
      let key : number (take form.key (drop (v * half) bytes)) ≡ number mid = ap number (ap (λ (k : ℕ). take form.key (drop k bytes)) (sym at) ∙ sym mid-is) in
      subst (λ (m : ℕ). Becomes form (half_of form level) before (λ k. one_at left k + one_at right k + body_uses form before.pages level count bytes k) new count' first' level low high
      (body_rows form before.pages level count bytes) ((low, left) ∷ ((m, right) ∷ []))) key
      (subst (λ (x : ℕ). Becomes form (half_of form level) before (λ k. one_at left k + one_at right k + body_uses form before.pages level x bytes k) new count' first' level low high
      (body_rows form before.pages level x bytes) ((low, left) ∷ ((number (take form.key (drop (v * half) bytes)), right) ∷ []))) sum made)

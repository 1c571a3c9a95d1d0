-- Fronts of a text that were said.
use Rattle.std.proofs.Common.{◌≡◌, ◌⊎◌, inl, inr, ⊎_elim, ℕ, ◌+◌, ◌-◌, ◌≤◌, ◌<◌, List, [], ◌++◌, length, take, min, sym, ap, ◌∙◌, arith, append_assoc}
use Rattle.std.proofs.Math.Seq.{take-append-add}
use Rattle.std.proofs.lemmas.Bool.{cases_lt}
use Rattle.std.proofs.lemmas.List.{append-nil, take_all, take_min, take-append-le}
use Rattle.run_outcome.specs.Said.{SaysFrontOf}

-- a front of a text behind some that was said whole
pub front-behind : (whole done text old mid new : List ℕ) → whole ≡ done ++ text → mid ≡ old ++ done → SaysFrontOf text mid new → SaysFrontOf whole old new
front-behind whole done text old mid new is was says = (
  length done + says.0,
  says.1 ∙ ap (λ s. s ++ take says.0 text) was ∙ append_assoc old done (take says.0 text)
      ∙ ap (λ s. old ++ s) (sym (ap (take (length done + says.0)) is ∙ take-append-add done text says.0)),
)

-- where nothing was said, a front was
pub front-none : (text old new : List ℕ) → new ≡ old → SaysFrontOf text old new
front-none text old new same = (0, same ∙ sym (append-nil old))

-- a front of two texts is one of the first, or the first and a front of the second
pub front-split : (one other before said : List ℕ) → SaysFrontOf (one ++ other) before said → SaysFrontOf one before said ⊎ SaysFrontOf other (before ++ one) said
front-split one other before said says =
    let n : ℕ = says.0 in
    ⊎_elim
    (λ (long : length one < n).
    let behind : length one + (n - length one) ≡ n = omega arith in
    inr (n - length one, says.1 ∙ ap (λ k. before ++ take k (one ++ other)) (sym behind) ∙ ap (λ t. before ++ t) (take-append-add one other (n - length one)) ∙ sym (append_assoc before one (take (n - length one) other))))
    (λ (short : n ≤ length one). inl (n, says.1 ∙ ap (λ t. before ++ t) (take-append-le n one other short)))
    (cases_lt (length one) n)

-- a front of a text is one of more
pub front-longer : (text more before said : List ℕ) → SaysFrontOf text before said → SaysFrontOf (text ++ more) before said
front-longer text more before said says =
    (min says.0 (length text), says.1 ∙ ap (λ t. before ++ t) (sym (take-append-le (min says.0 (length text)) text more (omega arith) ∙ take_min says.0 text)))

-- a front of nothing is nothing
pub front-empty : (before said : List ℕ) → SaysFrontOf [] before said → said ≡ before
front-empty before said says = says.1 ∙ ap (λ t. before ++ t) (take_all says.0 [] (omega arith)) ∙ append-nil before

-- A piece of the bytes left, at the front of a buffer.
use Rattle.std.proofs.Common.{◌≡◌, ℕ, ◌+◌, ◌-◌, ◌<◌, ◌≤◌, List, ◌++◌, length, take, drop, min, Ok, sym, ap, ◌∙◌, arith}
use Rattle.std.proofs.lemmas.List.{take-append-drop, drop-drop, drop_all, take_at, length-drop, length-take-le}
use Rattle.disk_model.specs.Source.{HasGiven}

-- n of the bytes from a place on, in front of what the buffer held behind them
pub piece_given : (bytes piece buffer left : List ℕ) (at n size : ℕ) → at + n ≤ length bytes → piece ≡ take (at + n - at) (drop at bytes) → drop at bytes ≡ left → n ≡ min (min (length buffer) size) (length bytes - at) → 0 < length buffer → 1 ≤ size → HasGiven (piece ++ drop n buffer) left (drop (at + n) bytes) (Ok n)
piece_given bytes piece buffer left at n size l p e m some more =
    let front : at + n - at ≡ n = omega arith in
    let is : piece ≡ take n (drop at bytes) = p ∙ ap (λ k. take k (drop at bytes)) front in
    let long : length piece ≡ n = ap length is ∙ length-take-le n (drop at bytes) (omega (arith, length-drop at bytes)) in
    record {
      given = sym e ∙ sym (take-append-drop n (drop at bytes))
          ∙ ap (λ front. front ++ drop n (drop at bytes)) (sym is ∙ sym (take_at piece (drop n buffer) n long))
          ∙ ap (λ rest. take n (piece ++ drop n buffer) ++ rest) (drop-drop n at bytes);
      ends = λ none. sym e ∙ drop_all at bytes (omega arith);
      failed = tt;
    }

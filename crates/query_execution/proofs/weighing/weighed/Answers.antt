use Rattle.std.proofs.Common.{◌≡◌, ◌≤◌, ℕ, List, Err, length, ap, sym, subst, ◌∙◌, arith}
use Rattle.page_face.specs.declared.fault.PageFault.TheVariants.{Damaged}
use Rattle.place_values.specs.Answer.{asked_of}
use Rattle.place_values.specs.Rarity.{weighed_by_rarity}
use Rattle.place_values.specs.Top.{Weighted}
use Rattle.place_values.specs.declared.query.Query.{Query}
use Rattle.place_values.specs.declared.query.Query.TheVariants.{Top, Rare}
use Rattle.store_model.specs.Stands.{places_in, state_in}
use Rattle.query_execution.specs.Asked.{AreKnown, asked_in}
use Rattle.query_execution.specs.Holders.{places_of_word}
use Rattle.query_execution.proofs.Holders.{few-hold, weighed-same}
use Rattle.query_execution.proofs.weighing.weighed.Goals as goal

pub returns-in-Ok-clause-asked : goal.returns-in-Ok-clause-asked
returns-in-Ok-clause-asked g c = λ entries holds known next_word serial number agree live.
    let words : List (List ℕ) = c.as_slice.result.now in
    let is : Rare c.in-Rare.at c.in-Rare.scale c.in-Rare.k c.in-Rare.alpha c.in-Rare.reach words ≡ c.args.query.now = cc (c.as_slice.ensures, c.in-Rare.is) in
    let known' : AreKnown c.args.ids.now entries.texts words = subst (λ (query : Query). AreKnown c.args.ids.now entries.texts (asked_in query)) (sym is) known in
    let weights : c.from_vec.result ≡ weighed_by_rarity (places_in entries) words =
    c.from_vec.ensures ∙ c.in-Ok.ensures.weighed entries holds known' ∙ weighed-same entries next_word agree holds.places.each c.args.live live words in
    ap (λ (terms : Weighted). Top c.in-Rare.at c.in-Rare.scale c.in-Rare.k c.in-Rare.alpha c.in-Rare.reach terms) weights
    ∙ ap (asked_of (state_in entries serial number)) is

pub returns-in-Err-clause-no_false_damage : goal.returns-in-Err-clause-no_false_damage
returns-in-Err-clause-no_false_damage g c = λ entries holds known next_word agree live told counted damage.
    let words : List (List ℕ) = c.as_slice.result.now in
    let is : Rare c.in-Rare.at c.in-Rare.scale c.in-Rare.k c.in-Rare.alpha c.in-Rare.reach words ≡ c.args.query.now = cc (c.as_slice.ensures, c.in-Rare.is) in
    let known' : AreKnown c.args.ids.now entries.texts words = subst (λ (query : Query). AreKnown c.args.ids.now entries.texts (asked_in query)) (sym is) known in
    let few : (word : List ℕ) → places_of_word entries word ≤ c.args.live = λ word. subst (λ (n : ℕ). places_of_word entries word ≤ n) (sym live) (few-hold entries next_word agree holds.places.each word) in
    λ e. (let same : c.in-Err.fault ≡ Damaged damage = cc e in
    c.in-Err.ensures.no_false_damage entries holds known' few told counted damage (ap Err same))

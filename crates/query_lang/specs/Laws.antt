-- Where the boxes of an expression stand doesn't matter to what is said.
use Rattle.std.proofs.Common.{◌≡◌, Bool, List, Option, Some, None, Ok, refl, ap, ◌∙◌}
use Rattle.std.specs.Prelude.{not, ◌&&◌, ◌||◌}
use Rattle.std.specs.List.{flat_map}
use Rattle.spatial_base.specs.Key.{Name}
use Rattle.spatial_base.specs.Point.{seen_from}
use Rattle.place_values.specs.First.{first, ranked}
use Rattle.place_values.specs.declared.place.Place.{Place}
use Rattle.place_values.specs.declared.hit.Hit.{Hit}
use Rattle.place_values.specs.declared.query.Expr.{Expr}
use Rattle.place_values.specs.declared.query.Expr.TheVariants.{Has, Not', And', Or'}
use Rattle.place_values.specs.declared.query.Query.{Query}
use Rattle.place_values.specs.declared.query.Query.TheVariants.{Range, Inside, Nearest, Top, Rare, Group, Gather}
use Rattle.place_values.specs.declared.query.Answer.TheVariants as answers
use Rattle.place_values.specs.Filter.{holds, passes}
use Rattle.place_values.specs.Hit.{comes_before}
use Rattle.place_values.specs.State.{Contents}
use Rattle.place_values.specs.Answer.{answer_of, near_hits, range_hits, box_hits}
use Rattle.query_replies.specs.Found.{found_text}
use Rattle.query_replies.specs.Reply.{text_of_reply}
use Rattle.query_lang.specs.declared.line.Line.{Line}
use Rattle.query_lang.specs.declared.line.Line.TheVariants as lines
use Rattle.query_lang.specs.Plain.{plain, plain_filter, plain_query, plain_line}
use Rattle.query_lang.specs.Reply.{reply_of}

-- of a place an expression holds as its plain form does
holds-plain : (place : Place) (expr : Expr) → holds place (plain expr) ≡ holds place expr
holds-plain place (Has word) = refl
holds-plain place (Not' _ one) = ap not (holds-plain place one)
holds-plain place (And' _ one _ other) =
    ap (λ b. b && holds place (plain other)) (holds-plain place one) ∙ ap (λ b. holds place one && b) (holds-plain place other)
holds-plain place (Or' _ one _ other) =
    ap (λ b. b || holds place (plain other)) (holds-plain place one) ∙ ap (λ b. holds place one || b) (holds-plain place other)

-- and so does a filter
passes-plain : (filter : Option Expr) (place : Place) → passes (plain_filter filter) place ≡ passes filter place
passes-plain None place = refl
passes-plain (Some expr) place = holds-plain place expr

-- places give the same where each gives the same
given_same : (give other : Name × Place → List Hit) (entries : List (Name × Place)) → ((entry : Name × Place) → give entry ≡ other entry) → flat_map give entries ≡ flat_map other entries
given_same give other entries same = ap (λ (g : Name × Place → List Hit). flat_map g entries) (λ i entry. same entry i)

-- so a query's answer is its plain form's
pub answer_of-plain : (state : Contents) (query : Query) → answer_of state (plain_query query) ≡ answer_of state query
answer_of-plain state (Range at scale radius filter) =
    ap (λ (hits : List Hit). answers.Hits (ranked comes_before hits))
    (given_same (range_hits (seen_from at scale) radius (plain_filter filter)) (range_hits (seen_from at scale) radius filter) state.places (λ entry. rw (passes-plain filter entry.1) refl))
answer_of-plain state (Inside rect filter) =
    ap (λ (hits : List Hit). answers.Hits (ranked comes_before hits))
    (given_same (box_hits rect (plain_filter filter)) (box_hits rect filter) state.places (λ entry. rw (passes-plain filter entry.1) refl))
answer_of-plain state (Nearest at scale k filter) =
    ap (λ (hits : List Hit). answers.Hits (first comes_before k hits))
    (given_same (near_hits (seen_from at scale) (plain_filter filter)) (near_hits (seen_from at scale) filter) state.places (λ entry. rw (passes-plain filter entry.1) refl))
answer_of-plain state (Top at scale k alpha reach words) = refl
answer_of-plain state (Rare at scale k alpha reach words) = refl
answer_of-plain state (Group at scale words) = refl
answer_of-plain state (Gather at scale words) = refl

-- the reply to a query is written as its plain form's
found-plain : (state : Contents) (query : Query) (explain : Bool) → found_text explain (plain_query query) (answer_of state (plain_query query)) ≡ found_text explain query (answer_of state query)
found-plain state (Range at scale radius filter) explain = ap (found_text explain (Range at scale radius filter)) (answer_of-plain state (Range at scale radius filter))
found-plain state (Inside rect filter) explain = ap (found_text explain (Inside rect filter)) (answer_of-plain state (Inside rect filter))
found-plain state (Nearest at scale k filter) explain = ap (found_text explain (Nearest at scale k filter)) (answer_of-plain state (Nearest at scale k filter))
found-plain state (Top at scale k alpha reach words) explain = refl
found-plain state (Rare at scale k alpha reach words) explain = refl
found-plain state (Group at scale words) explain = refl
found-plain state (Gather at scale words) explain = refl

-- so a line is answered in the words of its plain form
pub reply_of-plain : (state : Contents) (line : Line) → text_of_reply (reply_of state (Ok (plain_line line))) ≡ text_of_reply (reply_of state (Ok line))
unfolding reply_of text_of_reply
reply_of-plain state lines.Nothing = refl
reply_of-plain state (lines.Do update) = refl
reply_of-plain state (lines.Ask query explain) = found-plain state query explain
reply_of-plain state (lines.Show key) = refl
reply_of-plain state lines.Count = refl

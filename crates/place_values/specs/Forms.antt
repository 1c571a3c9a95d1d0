-- What contracts see of as what an expression is written.
use Rattle.place_values.specs.Limits.{Form, Whole, Term, Factor}
use Rattle.place_values.specs.declared.limits.Form.{Form as Written}
use Rattle.place_values.specs.declared.limits.Form.TheVariants as forms

-- the form
abbrev pub form_seen : Written → Form
form_seen forms.Whole = Whole
form_seen forms.Term = Term
form_seen forms.Factor = Factor

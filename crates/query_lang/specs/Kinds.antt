-- What contracts see of a token's kind.
use Rattle.query_lang.specs.Expression.{Kind, Named, NotSign, OpenSign, CloseSign, Other}
use Rattle.query_lang.specs.declared.kind.Kind.{Kind as TokenKind}
use Rattle.query_lang.specs.declared.kind.Kind.TheVariants as kinds

-- the kind
abbrev pub kind_seen : TokenKind → Kind
kind_seen (kinds.Word text) = Named text.now
kind_seen kinds.Not = NotSign
kind_seen kinds.Open = OpenSign
kind_seen kinds.Close = CloseSign
kind_seen kinds.Other = Other

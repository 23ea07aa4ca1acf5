use Rattle.std.proofs.Common.{◌∙◌, ap, Some, codes, string_bytes}
use Rattle.std.specs.Prelude.{option_map}
use Rattle.media_type.proofs.HeadersLemmas.{lookup-get}
use Rattle.media_type.proofs.specifiers.content_type_in.Goals as goal

-- what the map has at the name is the value of the header
pub returns-in-Some : goal.returns-in-Some
returns-in-Some c =
    ap Some c.as_str.ensures.value ∙ ap (option_map string_bytes) c.in-Some.ensures.value
    ∙ lookup-get (codes "content-type") c.args.headers.now.entries

pub returns-in-None : goal.returns-in-None
returns-in-None c =
    ap (option_map string_bytes) c.in-None.ensures.value
    ∙ lookup-get (codes "content-type") c.args.headers.now.entries

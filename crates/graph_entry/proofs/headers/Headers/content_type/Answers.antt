use Rattle.std.proofs.Common.{◌∙◌, ap, Some, codes, string_bytes}
use Rattle.std.specs.Prelude.{option_map}
use Rattle.graph_entry.specs.Headers.{header_value}
use Rattle.graph_entry.proofs.HeadersLemmas.{header_value-get}
use Rattle.graph_entry.proofs.headers.Headers.content_type.Goals as goal

-- what the map has at the name is the value of the header
pub returns-in-Some : goal.returns-in-Some
returns-in-Some c =
    ap Some c.as_str.ensures.value ∙ ap (option_map string_bytes) c.in-Some.ensures.value
    ∙ header_value-get (codes "content-type") c.self.inside.entries.entries
    ∙ ap (header_value (codes "content-type")) c.self.view_is

pub returns-in-None : goal.returns-in-None
returns-in-None c =
    ap (option_map string_bytes) c.in-None.ensures.value
    ∙ header_value-get (codes "content-type") c.self.inside.entries.entries
    ∙ ap (header_value (codes "content-type")) c.self.view_is

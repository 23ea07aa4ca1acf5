use Rattle.std.proofs.Common.{◌≡◌, ◌∙◌, ap}
use Rattle.std.specs.Str.{str_to_ascii_lowercase}
use Rattle.media_type.specs.ContentTypes.{with_content_type, by_rule, first_rule, content_types}
use Rattle.media_type.specs.mime_essence.Essence.{essence_of}
use Rattle.media_type.proofs.media_type.MediaType.with_content_type.Goals as goal

-- the table of the code is that of the definition, and the text is the content type in small letters
pub returns : goal.returns
unfolding with_content_type
returns c =
    let lowered : c.as_str.result.now ≡ str_to_ascii_lowercase (essence_of c.args.header.now)
    = c.as_str.ensures.value ∙ c.in_ok-essence.ensures.ok ∙ ap str_to_ascii_lowercase c.essence_of.ensures in
    c.by_rule.ensures ∙ ap (by_rule c.args.self) (c.first_rule.ensures ∙ ap (first_rule content_types) lowered)

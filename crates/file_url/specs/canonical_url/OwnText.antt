-- What a URL's own text is read as.
use Rattle.std.specs.Prelude.{◌≡◌, None, Ok}
use Rattle.url.specs.Parts.{Parts, serialize}
use Rattle.url.specs.Parser.{parse_url}

-- the text of the URL, read by itself, is this URL (URL Standard, "URL serializing", "URL parsing")
abbrev pub ReadsAsItself : Parts → Type 0
ReadsAsItself url = parse_url None (serialize url) ≡ Ok url

-- The default maker of spans: what it is set to, and the spans that it makes.
use Rattle.std.specs.Prelude.{◌≡◌, ℕ, Bool, false, List, [], ◌∷◌, codes, None, IfOk}
use Rattle.http.specs.Uri.{uri_text}
use Rattle.http.specs.declared.request.Parts.{Parts}
use Rattle.http.specs.declared.version.Http.{Http}
use Rattle.http.specs.declared.version.Http.TheVariants.{Http09, Http10, Http11, H2, H3}
use Rattle.http.specs.declared.version.Version.{Version}
use Rattle.life_core.specs.declared.event.Level.{Level}
use Rattle.life_core.specs.declared.event.Level.TheVariants.{Debug}
use Rattle.life_core.specs.declared.span.Span.{Span}
use Rattle.life_trace.specs.Headers.{headers_told}
use Rattle.life_trace.specs.Hooks.{MakesSpan}
use Rattle.life_trace.specs.declared.trace.make_span.DefaultMakeSpan.{DefaultMakeSpan}

-- the maker as it is made
abbrev pub default_make_span : DefaultMakeSpan
default_make_span = record { level = Debug; include_headers = false }

-- the maker at another level
abbrev pub with_level : DefaultMakeSpan → Level → DefaultMakeSpan
with_level maker level = record maker { level = level }

-- the maker that tells headers, or does not
abbrev pub with_headers : DefaultMakeSpan → Bool → DefaultMakeSpan
with_headers maker include = record maker { include_headers = include }

-- the text of a number of a version
abbrev pub http_text : Http → List ℕ
http_text Http09 = codes "HTTP/0.9"
http_text Http10 = codes "HTTP/1.0"
http_text Http11 = codes "HTTP/1.1"
http_text H2 = codes "HTTP/2.0"
http_text H3 = codes "HTTP/3.0"

-- the text of a version
abbrev pub version_text : Version → List ℕ
version_text version = http_text version.0

-- the method, the target and the version of a request
abbrev pub request_pairs : Parts → List (List ℕ × List ℕ)
request_pairs parts = (codes "method", parts.method) ∷ (codes "uri", uri_text parts.uri) ∷ (codes "version", version_text parts.version) ∷ []

-- the span of a request at this level, without headers
abbrev pub plain_span : Level → Parts → Span
plain_span level parts = record { level = level; name = codes "request"; fields = request_pairs parts; headers = None }

-- the span of a request, with its headers where they are asked for
abbrev pub request_span : DefaultMakeSpan → Parts → Span
request_span maker parts = record (plain_span maker.level parts) { headers = headers_told maker.include_headers parts.headers }

-- the span of the request is made, and the maker stays
abbrev pub MakesRequestSpan : {B X : Type 0} → MakesSpan DefaultMakeSpan B X
MakesRequestSpan old request answer new = IfOk answer (λ span. span ≡ request_span old request.head.parts) × (new ≡ old)

-- What a lent part of a message or of a list writes back.
use Rattle.std.specs.Prelude.{ℕ, List, ◌++◌, length, take, drop, slice_set}
use Rattle.std.specs.Borrow.{Array, Lends, MutBor, Fml}
use denote.RattleType.{RattleType}
use Rattle.http_header.specs.contracts.map.HeaderMap.{the_row as map_row}
use Rattle.http_header.specs.contracts.value.HeaderValue.{the_row as value_row}
use Rattle.http_uri.specs.contracts.uri.Uri.{the_row as uri_row}
use Rattle.http.specs.contracts.method.Method.{the_row as method_row}
use Rattle.http.specs.contracts.status.StatusCode.{the_row as status_row}
use Rattle.http.specs.contracts.version.Version.{the_row as version_row}
use Rattle.life_core.specs.List.{Listed}
use Rattle.life_core.specs.contracts.list.List.{the_row as list_row}
use Rattle.life_core.specs.contracts.message.Request.{the_row as request_row}
use Rattle.life_core.specs.contracts.message.Response.{the_row as response_row}
use Rattle.life_core.specs.declared.message.Request.{Request}
use Rattle.life_core.specs.declared.message.Response.{Response}

module _ (B X : RattleType) (s : MutBor (Request B.Denot X.Denot)) where
  -- once the borrow r ends, the request has the method last written through r
  abbrev pub LendsMethod : MutBor method_row.Denot → Fml
  LendsMethod r = Lends (request_row B X) method_row s r (λ w. record s.now { head = record s.now.head { parts = record s.now.head.parts { method = w } } })

  -- the same for the target
  abbrev pub LendsUri : MutBor uri_row.Denot → Fml
  LendsUri r = Lends (request_row B X) uri_row s r (λ w. record s.now { head = record s.now.head { parts = record s.now.head.parts { uri = w } } })

  -- the same for the version
  abbrev pub LendsVersion : MutBor version_row.Denot → Fml
  LendsVersion r = Lends (request_row B X) version_row s r (λ w. record s.now { head = record s.now.head { parts = record s.now.head.parts { version = w } } })

  -- the same for the header fields
  abbrev pub LendsRequestHeaders : MutBor (map_row value_row).Denot → Fml
  LendsRequestHeaders r = Lends (request_row B X) (map_row value_row) s r (λ w. record s.now { head = record s.now.head { parts = record s.now.head.parts { headers = w } } })

  -- the same for the extension
  abbrev pub LendsRequestExt : MutBor X.Denot → Fml
  LendsRequestExt r = Lends (request_row B X) X s r (λ w. record s.now { head = record s.now.head { ext = w } })

  -- the same for the body
  abbrev pub LendsRequestBody : MutBor B.Denot → Fml
  LendsRequestBody r = Lends (request_row B X) B s r (λ w. record s.now { body = w })

module _ (B X : RattleType) (s : MutBor (Response B.Denot X.Denot)) where
  -- once the borrow r ends, the response has the status last written through r
  abbrev pub LendsStatus : MutBor status_row.Denot → Fml
  LendsStatus r = Lends (response_row B X) status_row s r (λ w. record s.now { head = record s.now.head { parts = record s.now.head.parts { status = w } } })

  -- the same for the header fields
  abbrev pub LendsResponseHeaders : MutBor (map_row value_row).Denot → Fml
  LendsResponseHeaders r = Lends (response_row B X) (map_row value_row) s r (λ w. record s.now { head = record s.now.head { parts = record s.now.head.parts { headers = w } } })

  -- the same for the extension
  abbrev pub LendsResponseExt : MutBor X.Denot → Fml
  LendsResponseExt r = Lends (response_row B X) X s r (λ w. record s.now { head = record s.now.head { ext = w } })

  -- the same for the body
  abbrev pub LendsResponseBody : MutBor B.Denot → Fml
  LendsResponseBody r = Lends (response_row B X) B s r (λ w. record s.now { body = w })

-- the old list with these items, cut or filled up to its length
abbrev pub refilled : {T : Type 0} → List T → List T → List T
refilled old new = take (length old) (new ++ drop (length new) old)

module _ (T : RattleType) where
  -- the list ends with the items that were left
  abbrev pub LendsItems : MutBor (Listed T.Denot) → MutBor (List T.Denot) → Fml
  LendsItems l r = Lends (list_row T) (Array T 0) l r (λ w. record l.now { items = refilled l.now.items w })

  -- the list ends with the item that was left at its place
  abbrev pub LendsItem : ℕ → MutBor (Listed T.Denot) → MutBor T.Denot → Fml
  LendsItem i l r = Lends (list_row T) T l r (λ w. record l.now { items = slice_set l.now.items i w })

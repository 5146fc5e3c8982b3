-- What tracing records by its histories is what the table says.
use Rattle.std.proofs.Common.{◌≡◌, ℕ, suc, ◌+◌, List, [], ◌∷◌, ◌++◌, length, Bool, true, false, Option, Some, None, Ok, Err, Result, refl, sym, ap, ◌∙◌, arith, append-nil}
use Rattle.std.specs.Prelude.{◌||◌, ◌&&◌, not, if◌then◌else◌, slice_get, ⊤}
use Rattle.std.specs.List.{list_any}
use Rattle.std.proofs.lemmas.List.Folds.{list_any-append}
use Rattle.http_body.specs.Frame.{data_frame, trailers_frame}
use Rattle.http_body.specs.declared.frame.Frame.{Frame}
use Rattle.http_body.specs.declared.frame.Kind.{Kind}
use Rattle.http_body.specs.declared.frame.Kind.TheVariants.{Data, Trailers}
use Rattle.life_classify.specs.Code.{ok_alone}
use Rattle.life_classify.specs.Drive.{grpc_answer, grpc_told}
use Rattle.life_classify.specs.Grpc.{grpc_parsed}
use Rattle.life_classify.specs.GrpcClasses.{headers_told, trailers_told}
use Rattle.life_classify.specs.Status.{error_class_text, is_between, status_class_text}
use Rattle.life_classify.specs.declared.classify.drive_classifier.DriveClassifier.{DriveClassifier}
use Rattle.life_classify.specs.declared.classify.drive_classifier.DriveClassifier.TheVariants as named
use Rattle.life_classify.specs.declared.classify.drive_classifier.DriveClassifyEos.{DriveClassifyEos}
use Rattle.life_classify.specs.declared.classify.drive_classifier.DriveFailureClass.{DriveFailureClass}
use Rattle.life_classify.specs.declared.classify.drive_classifier.DriveFailureClass.TheVariants.{Http, Grpc}
use Rattle.life_classify.specs.declared.classify.grpc_errors_as_failures.status.ParsedGrpcStatus.{ParsedGrpcStatus}
use Rattle.life_classify.specs.declared.classify.grpc_errors_as_failures.status.ParsedGrpcStatus.TheVariants.{Success, NonSuccess, GrpcStatusHeaderMissing, HeaderNotGrpcCode}
use Rattle.life_classify.specs.declared.classify.server_errors_as_failures.ServerErrorsFailureClass.TheVariants as server
use Rattle.life_classify.specs.declared.classify.traits.ClassifiedResponse.{ClassifiedResponse}
use Rattle.life_classify.specs.declared.classify.traits.ClassifiedResponse.TheVariants as class
use Rattle.life_core.specs.History.{Latest, Said, Waits, Gives, Fails}
use Rattle.life_core.specs.Life.{life_after, life_on, passed_frame}
use Rattle.life_core.specs.Timer.{due, since}
use Rattle.life_core.specs.declared.body.BodyError.{BodyError}
use Rattle.life_core.specs.declared.body.BodyError.TheVariants.{Elapsed, Inner}
use Rattle.life_core.specs.declared.event.Event.{Event}
use Rattle.life_core.specs.declared.life.Life.{Life}
use Rattle.life_core.specs.declared.poll.Poll.{Poll}
use Rattle.life_core.specs.declared.poll.Poll.TheVariants.{Ready, Pending}
use Rattle.life_script.specs.Headers.{Headers, map_of}
use Rattle.life_script.specs.Reply.{ReplyView}
use Rattle.life_script.specs.declared.answer.Answer.{Answer}
use Rattle.life_script.specs.declared.answer.Answer.TheVariants as ans
use Rattle.life_script.specs.declared.scenario.BodyItem.{BodyItem}
use Rattle.life_script.specs.declared.scenario.BodyItem.TheVariants as body_item
use Rattle.life_script.specs.declared.scenario.Limits.{Limits}
use Rattle.life_session.specs.Course.{frame_told, kind_seen}
use Rattle.life_time.specs.History.{undue, wrapped}
use Rattle.life_time.proofs.DeadlineFollows.{undue_all}
use Rattle.life_trace.specs.History.{answer_told, failure_told, ready_told, said_told, still_open}
use Rattle.life_stack.specs.Service.History.{BodyPlan, Head, body_plan}
use Rattle.life_stack.specs.Service.Script.{item_frame}
use Rattle.life_stack.specs.Stack.Course.{LifeIs}
use Rattle.life_stack.specs.Stack.Driven.{timed_body_history}
use Rattle.life_stack.specs.Stack.Tracing.{class_text, drive_classes, drive_events, fault_text, head_class}
use Rattle.life_stack.specs.Table.Story.{Failed, Replied, body_answer, body_answers, body_events, item_events, outcome_events, tells_after}
use Rattle.life_stack.specs.Table.Traced.{Class, FailsWith, Given, Open, Succeeds, any_closes, any_faults, at_once, chunked, class_of, closes, elapsed_text, ended, failed, failed_if, faults, finished, grpc_class, grpc_failure, is_open, last_ready, status_class, trailers_failure, waits}

-- THE CLASS.

-- the table's class of a response, and the classifier's
abbrev pub Same : ClassifiedResponse DriveFailureClass DriveClassifyEos → Class → Type 0
Same (class.Ready (Ok u)) Succeeds = ⊤
Same (class.Ready (Ok u)) (FailsWith text) = ⊥
Same (class.Ready (Ok u)) Open = ⊥
Same (class.Ready (Err x)) Succeeds = ⊥
Same (class.Ready (Err x)) (FailsWith text) = class_text x ≡ text
Same (class.Ready (Err x)) Open = ⊥
Same (class.RequiresEos k) Succeeds = ⊥
Same (class.RequiresEos k) (FailsWith text) = ⊥
Same (class.RequiresEos k) Open = k ≡ record { grpc = ok_alone }

status_same : (status : ℕ) (fails : Bool) →
    Same (class.Ready (if fails then Err (Http (server.StatusCode status)) else Ok tt)) (if fails then FailsWith (status_class_text status) else Succeeds)
status_same status true = refl
status_same status false = tt

grpc_same : (parsed : ParsedGrpcStatus) → Same (grpc_told (headers_told ok_alone parsed)) (grpc_class parsed)
grpc_same Success = tt
grpc_same (NonSuccess status) = refl
grpc_same GrpcStatusHeaderMissing = refl
grpc_same HeaderNotGrpcCode = tt

pub same_class : (c : DriveClassifier) (reply : ReplyView) → Same (head_class c (reply.status, reply.headers)) (class_of c reply)
same_class named.Http reply = status_same reply.status (is_between 500 599 reply.status)
same_class named.Grpc reply = grpc_same (grpc_parsed ok_alone (map_of reply.headers))

-- THE RESPONSE.

begun : (c : DriveClassifier) (x : ClassifiedResponse DriveFailureClass DriveClassifyEos) (k : Class) (latency : ℕ) → Same x k →
    failed_if (at_once k) latency ≡ ready_told drive_events (drive_classes c) x latency
begun c (class.Ready (Ok u)) Succeeds latency s = refl
begun c (class.Ready (Ok u)) (FailsWith text) latency s = absurd s
begun c (class.Ready (Ok u)) Open latency s = absurd s
begun c (class.Ready (Err x)) Succeeds latency s = absurd s
begun c (class.Ready (Err x)) (FailsWith text) latency s = ap (λ t. failed t latency ∷ []) (sym s)
begun c (class.Ready (Err x)) Open latency s = absurd s
begun c (class.RequiresEos e) Succeeds latency s = absurd s
begun c (class.RequiresEos e) (FailsWith text) latency s = absurd s
begun c (class.RequiresEos e) Open latency s = refl

error_text : (c : DriveClassifier) (error : List ℕ) → class_text ((drive_classes c).error error) ≡ error_class_text error
error_text named.Http error = refl
error_text named.Grpc error = refl

pub response_traced : (limits : Limits) (reply : ReplyView) (P : Type 0) (p : P) (latency : ℕ) →
    outcome_events limits (Replied reply) latency ≡ said_told drive_events (drive_classes limits.classifier) (Gives (reply.status, reply.headers) p) latency
response_traced limits reply P p latency =
    ap (λ es. finished reply.status reply.headers latency ∷ es) (begun limits.classifier (head_class limits.classifier (reply.status, reply.headers)) (class_of limits.classifier reply) latency (same_class limits.classifier reply))

abbrev pub fails : (P : Type 0) → List ℕ → Said Head P (List ℕ)
fails P error = Fails error

pub error_traced : (limits : Limits) (error : List ℕ) (P : Type 0) (latency : ℕ) →
    outcome_events limits (Failed error) latency ≡ said_told drive_events (drive_classes limits.classifier) (fails P error) latency
error_traced limits error P latency = ap (λ t. failed t latency ∷ []) (sym (error_text limits.classifier error))

-- AN ANSWER OF A BODY, by whether the end and a fault came before, and the two lengths of time.

module _ (c : DriveClassifier) (latency duration : ℕ) where
  abbrev pub opened : Class → Bool → Bool → Option (List ℕ) → List Event
  opened k closed faulted text = if is_open k && not (closed || faulted) then failed_if text latency else []

  abbrev pub once : Bool → Option Headers → List Event
  once closed trailers = if closed then [] else ended trailers duration ∷ []

  abbrev pub traced : Class → Bool → Bool → Bool → Option BodyItem → List Event
  traced k closed faulted tells None = once closed None
  traced k closed faulted tells (Some body_item.Pending) = []
  traced k closed faulted tells (Some (body_item.Trailers trailers)) = opened k closed faulted (trailers_failure trailers) ++ once closed (Some trailers)
  traced k closed faulted tells (Some (body_item.Fault fault)) = opened k closed faulted (Some (error_class_text fault))
  traced k closed faulted tells (Some (body_item.Chunk bytes)) = chunked (length bytes) latency ∷ (if tells then once closed None else [])

  abbrev pub told : ClassifiedResponse DriveFailureClass DriveClassifyEos → Bool → Bool → Poll (Option (Result (Frame (List ℕ)) (BodyError (List ℕ)))) → Bool → List Event
  told x closed faulted a tells = answer_told drive_events (drive_classes c) closed (still_open x (closed || faulted)) a tells (record { latency = latency; duration = duration })

  -- the end, by what is open
  ended_same : (x : ClassifiedResponse DriveFailureClass DriveClassifyEos) (k : Class) (closed faulted tells : Bool) → Same x k → once closed None ≡ told x closed faulted (Ready None) tells
  ended_same x k true faulted tells s = refl
  ended_same (class.Ready r) k false faulted tells s = refl
  ended_same (class.RequiresEos e) k false true tells s = refl
  ended_same (class.RequiresEos e) k false false tells s = refl

  -- a fault, of any text
  fault_same : (x : ClassifiedResponse DriveFailureClass DriveClassifyEos) (k : Class) (closed faulted tells : Bool) (fault : BodyError (List ℕ)) → Same x k →
      opened k closed faulted (Some (error_class_text (fault_text fault))) ≡ told x closed faulted (Ready (Some (Err fault))) tells
  fault_same (class.Ready (Ok u)) Succeeds closed faulted tells fault s = refl
  fault_same (class.Ready (Ok u)) (FailsWith text) closed faulted tells fault s = absurd s
  fault_same (class.Ready (Ok u)) Open closed faulted tells fault s = absurd s
  fault_same (class.Ready (Err x)) Succeeds closed faulted tells fault s = absurd s
  fault_same (class.Ready (Err x)) (FailsWith text) closed faulted tells fault s = refl
  fault_same (class.Ready (Err x)) Open closed faulted tells fault s = absurd s
  fault_same (class.RequiresEos e) Succeeds closed faulted tells fault s = absurd s
  fault_same (class.RequiresEos e) (FailsWith text) closed faulted tells fault s = absurd s
  fault_same (class.RequiresEos e) Open true faulted tells fault s = refl
  fault_same (class.RequiresEos e) Open false true tells fault s = refl
  fault_same (class.RequiresEos e) Open false false tells fault s = refl

  -- what trailers tell of the class
  failure_same : (parsed : ParsedGrpcStatus) → failed_if (grpc_failure parsed) latency ≡ failure_told drive_events (drive_classes c) (grpc_answer (trailers_told parsed)) latency
  failure_same Success = refl
  failure_same (NonSuccess status) = refl
  failure_same GrpcStatusHeaderMissing = refl
  failure_same HeaderNotGrpcCode = refl

  trailers_same : (x : ClassifiedResponse DriveFailureClass DriveClassifyEos) (k : Class) (closed faulted tells : Bool) (trailers : Headers) → Same x k →
      opened k closed faulted (trailers_failure trailers) ++ once closed (Some trailers) ≡ told x closed faulted (Ready (Some (Ok (trailers_frame (map_of trailers))))) tells
  trailers_same (class.Ready (Ok u)) Succeeds true faulted tells trailers s = refl
  trailers_same (class.Ready (Ok u)) Succeeds false faulted tells trailers s = refl
  trailers_same (class.Ready (Ok u)) (FailsWith text) closed faulted tells trailers s = absurd s
  trailers_same (class.Ready (Ok u)) Open closed faulted tells trailers s = absurd s
  trailers_same (class.Ready (Err x)) Succeeds closed faulted tells trailers s = absurd s
  trailers_same (class.Ready (Err x)) (FailsWith text) true faulted tells trailers s = refl
  trailers_same (class.Ready (Err x)) (FailsWith text) false faulted tells trailers s = refl
  trailers_same (class.Ready (Err x)) Open closed faulted tells trailers s = absurd s
  trailers_same (class.RequiresEos e) Succeeds closed faulted tells trailers s = absurd s
  trailers_same (class.RequiresEos e) (FailsWith text) closed faulted tells trailers s = absurd s
  trailers_same (class.RequiresEos e) Open true faulted tells trailers s = refl
  trailers_same (class.RequiresEos e) Open false true tells trailers s = refl
  trailers_same (class.RequiresEos e) Open false false tells trailers s =
      ap (λ es. es ++ ended (Some trailers) duration ∷ []) (failure_same (grpc_parsed ok_alone (map_of trailers))
      ∙ ap (λ (k : DriveClassifyEos). failure_told drive_events (drive_classes c) (grpc_answer (trailers_told (grpc_parsed k.grpc (map_of trailers)))) latency) (sym s))

  chunk_same : (x : ClassifiedResponse DriveFailureClass DriveClassifyEos) (k : Class) (closed faulted tells : Bool) (bytes : List ℕ) → Same x k →
      chunked (length bytes) latency ∷ (if tells then once closed None else []) ≡ told x closed faulted (Ready (Some (Ok (data_frame bytes)))) tells
  chunk_same x k closed faulted true bytes s = ap (λ es. chunked (length bytes) latency ∷ es) (ended_same x k closed faulted true s)
  chunk_same x k closed faulted false bytes s = refl

  items_same : (x : ClassifiedResponse DriveFailureClass DriveClassifyEos) (k : Class) (closed faulted tells : Bool) (o : Option BodyItem) → Same x k →
      traced k closed faulted tells o ≡ told x closed faulted (wrapped (item_frame o)) tells
  items_same x k closed faulted tells None s = ended_same x k closed faulted tells s
  items_same x k closed faulted tells (Some body_item.Pending) s = refl
  items_same x k closed faulted tells (Some (body_item.Trailers trailers)) s = trailers_same x k closed faulted tells trailers s
  items_same x k closed faulted tells (Some (body_item.Fault fault)) s = fault_same x k closed faulted tells (Inner fault) s
  items_same x k closed faulted tells (Some (body_item.Chunk bytes)) s = chunk_same x k closed faulted tells bytes s

-- a poll of a body, by the deadline
pub body_traced : (limits : Limits) (reply : ReplyView) (t0 ph : ℕ) (given : Given) (past : List ℕ) (q : ℕ) → Latest q past →
    body_events limits reply t0 ph given q (length past)
    ≡ told limits.classifier (since (last_ready t0 given) q) (since ph q) (head_class limits.classifier (reply.status, reply.headers)) (any_closes given) (any_faults given)
    ((timed_body_history limits.body_deadline (ph, body_plan reply)).frame past q) ((timed_body_history limits.body_deadline (ph, body_plan reply)).ends (q ∷ past))
body_traced limits reply t0 ph given past q l = go (due ph limits.body_deadline q) refl
  where
    c : DriveClassifier
    c = limits.classifier

    x : ClassifiedResponse DriveFailureClass DriveClassifyEos
    x = head_class c (reply.status, reply.headers)

    go : (b : Bool) → due ph limits.body_deadline q ≡ b →
        (if b then opened c (since (last_ready t0 given) q) (since ph q) (class_of c reply) (any_closes given) (any_faults given) (Some (error_class_text elapsed_text))
        else item_events (class_of c reply) reply t0 ph given q (length past) (slice_get reply.body (length past)))
        ≡ told c (since (last_ready t0 given) q) (since ph q) x (any_closes given) (any_faults given)
        (if b then Ready (Some (Err Elapsed)) else wrapped (item_frame (slice_get reply.body (length (undue ph limits.body_deadline past)))))
        (tells_after reply (length (if b then undue ph limits.body_deadline past else q ∷ undue ph limits.body_deadline past)))
    go true e = fault_same c (since (last_ready t0 given) q) (since ph q) x (class_of c reply) (any_closes given) (any_faults given) (tells_after reply (length (undue ph limits.body_deadline past))) Elapsed (same_class c reply)
    go false e = rw (undue_all ph limits.body_deadline q past l e)
        (items_same c (since (last_ready t0 given) q) (since ph q) x (class_of c reply) (any_closes given) (any_faults given) (tells_after reply (suc (length past))) (slice_get reply.body (length past)) (same_class c reply))

-- WHAT HAS COME of a body, one answer further.

or_true : (b : Bool) → (b || true) ≡ true
or_true true = refl
or_true false = refl

or_false : (b : Bool) → (b || false) ≡ b
or_false true = refl
or_false false = refl

pub last_push : (t : ℕ) (given : Given) (q : ℕ) (a : Answer) → last_ready t (given ++ (q, a) ∷ []) ≡ (if waits a then last_ready t given else q)
last_push t [] q a = refl
last_push t (x ∷ given) q a = last_push (if waits x.1 then t else x.0) given q a

closes_push : (given : Given) (q : ℕ) (a : Answer) → any_closes (given ++ (q, a) ∷ []) ≡ (any_closes given || closes a)
closes_push given q a = list_any-append (λ x. closes x.1) given ((q, a) ∷ []) ∙ ap (λ b. any_closes given || b) (or_false (closes a))

faults_push : (given : Given) (q : ℕ) (a : Answer) → any_faults (given ++ (q, a) ∷ []) ≡ (any_faults given || faults a)
faults_push given q a = list_any-append (λ x. faults x.1) given ((q, a) ∷ []) ∙ ap (λ b. any_faults given || b) (or_false (faults a))

module _ (t0 ph : ℕ) (life : Life) (given : Given) (q : ℕ) (is : LifeIs t0 ph life given) where
  pushed : (a : Answer) (new : Life) → new.responded ≡ life.responded → new.last ≡ (if waits a then life.last else q) → new.closed ≡ (life.closed || closes a) → new.faulted ≡ (life.faulted || faults a) →
      LifeIs t0 ph new (given ++ (q, a) ∷ [])
  pushed a new r l c f = record {
    responded = r ∙ is.responded;
    last = l ∙ ap (λ t. if waits a then t else q) is.last ∙ sym (last_push t0 given q a);
    closed = c ∙ ap (λ b. b || closes a) is.closed ∙ sym (closes_push given q a);
    faulted = f ∙ ap (λ b. b || faults a) is.faulted ∙ sym (faults_push given q a);
  }

  framed : (kind : Kind (List ℕ)) (tells : Bool) → LifeIs t0 ph (life_after life q (passed_frame kind tells)) (given ++ (q, ans.Frame (kind_seen kind) tells) ∷ [])
  framed (Data bytes) tells = pushed (ans.Frame (kind_seen (Data bytes)) tells) _ refl refl refl (sym (or_false life.faulted))
  framed (Trailers trailers) tells = pushed (ans.Frame (kind_seen (Trailers trailers)) tells) _ refl refl (sym (or_true life.closed)) (sym (or_false life.faulted))

  pub life_pushed : (x : Poll (Option (Result (Frame (List ℕ)) (BodyError (List ℕ))))) (tells : Bool) → LifeIs t0 ph (life_on life q (Ok x) tells) (given ++ (q, frame_told x tells) ∷ [])
  life_pushed Pending tells = pushed ans.Pending life refl refl (sym (or_false life.closed)) (sym (or_false life.faulted))
  life_pushed (Ready None) tells = pushed ans.End _ refl refl (sym (or_true life.closed)) (sym (or_false life.faulted))
  life_pushed (Ready (Some (Err fault))) tells = pushed (ans.Fault fault) _ refl refl (sym (or_false life.closed)) (sym (or_true life.faulted))
  life_pushed (Ready (Some (Ok frame))) tells = framed frame.kind tells

-- what is told by what has come of the body, and by the answers so far
pub life_told : (c : DriveClassifier) (x : ClassifiedResponse DriveFailureClass DriveClassifyEos) (t0 ph : ℕ) (life : Life) (given : Given) (q : ℕ) (a : Poll (Option (Result (Frame (List ℕ)) (BodyError (List ℕ))))) (tells : Bool) →
    LifeIs t0 ph life given →
    told c (since (last_ready t0 given) q) (since ph q) x (any_closes given) (any_faults given) a tells ≡ told c (since life.last q) (since life.responded q) x life.closed life.faulted a tells
life_told c x t0 ph life given q a tells is =
    ap (λ n. told c (since n q) (since ph q) x (any_closes given) (any_faults given) a tells) (sym is.last)
    ∙ ap (λ n. told c (since life.last q) (since n q) x (any_closes given) (any_faults given) a tells) (sym is.responded)
    ∙ ap (λ b. told c (since life.last q) (since life.responded q) x b (any_faults given) a tells) (sym is.closed)
    ∙ ap (λ b. told c (since life.last q) (since life.responded q) x life.closed b a tells) (sym is.faulted)

-- the answers of a body, one poll further
pub body_answers_push : (deadline : ℕ) (reply : ReplyView) (ph k : ℕ) (qs : List ℕ) (t : ℕ) →
    body_answers deadline reply ph k (qs ++ t ∷ []) ≡ body_answers deadline reply ph k qs ++ (t, body_answer deadline reply ph t (k + length qs)) ∷ []
body_answers_push deadline reply ph k [] t = ap (λ n. (t, body_answer deadline reply ph t n) ∷ []) (omega arith)
body_answers_push deadline reply ph k (q ∷ qs) t =
    ap (λ given. (q, body_answer deadline reply ph q k) ∷ given) (body_answers_push deadline reply ph (suc k) qs t
    ∙ ap (λ n. body_answers deadline reply ph (suc k) qs ++ (t, body_answer deadline reply ph t n) ∷ []) (omega arith))

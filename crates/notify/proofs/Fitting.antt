-- What is read of a notification fits a world, since each reader of the table sees to it.
use Rattle.std.proofs.Common.{◌≡◌, ℕ, ℤ, ◌<◌, ◌≤◌, ◌^◌, Bool, true, false, List, [], ◌∷◌, length, cond, find, codes, Option, None, Some, IfSome, sym, subst, ap, arith}
use Rattle.std.specs.Prelude.{nat_le, unwrap_or, option_and_then}
use Rattle.std.specs.Option.{option_map}
use Rattle.std.proofs.lemmas.Bool.{leb-true}
use Rattle.plain.specs.Reading.{as_i32}
use Rattle.serde_json.specs.Data.{Data, Members}
use Rattle.serde_json.specs.Find.{get_member, as_str}
use Rattle.method_table.specs.Unit.{is_unit}
use Rattle.notify.specs.Cancelling.{request_in, token_in}
use Rattle.notify.specs.Changing.{changed_in}
use Rattle.lsp_types.specs.Documents.{document_members, take_document_uri}
use Rattle.notify.specs.Flychecks.{checked_in}
use Rattle.notify.specs.Opening.{document_in, text_within}
use Rattle.notify.specs.Reading.{Reader, readers, reader_of, has_method, bare, FitsWorld, FitsWorldIfRead}
use Rattle.notify.specs.Uris.{event_folders, event_of, uris_of, watched_in}
use Rattle.notify.specs.declared.notice.Notice.{Notice}
use Rattle.notify.specs.declared.notice.Notice.TheVariants as notice

-- ---- what is found in a list has what each item of it has

abbrev Each : {X : Type 0} → (X → Type 0) → List X → Type 0
Each P [] = Unit {0}
Each P (x ∷ xs) = P x × Each P xs

module _ {X : Type 0} (P : X → Type 0) (test : X → Bool) where
  chosen : (b : Bool) (x : X) (rest : Option X) → P x → IfSome rest P → IfSome (cond b (Some x) rest) P
  chosen true x rest h more = h
  chosen false x rest h more = more

  found : (xs : List X) → Each P xs → IfSome (find test xs) P
  found [] h = tt
  found (x ∷ xs) h = chosen (test x) x (find test xs) h.0 (found xs h.1)

-- ---- a document that is opened

document_by : (b : Bool) (uri text : List ℕ) (version : ℤ) → (b ≡ true → length text < 2 ^ 32)
    → IfSome (option_map notice.DidOpen (option_and_then (λ t. Some (record { uri = uri; version = version; text = t })) (cond b (Some text) None))) FitsWorld
document_by true uri text version h = h (λ i. true)
document_by false uri text version h = tt

short : (text : List ℕ) → nat_le (length text) 4294967295 ≡ true → length text < 2 ^ 32
short text e = let le : length text ≤ 4294967295 = leb-true _ _ e in omega (arith, le)

members_fit : (uri : Option (List ℕ)) (version : Option ℤ) (text : Option (List ℕ))
    → IfSome (option_map notice.DidOpen (option_and_then (λ u. option_and_then (λ v. option_and_then (λ t. Some (record { uri = u; version = v; text = t }))
    (option_and_then text_within text)) version) uri)) FitsWorld
members_fit None version text = tt
members_fit (Some u) None text = tt
members_fit (Some u) (Some v) None = tt
members_fit (Some u) (Some v) (Some t) = document_by (nat_le (length t) 4294967295) u t v (short t)

document_fits : (document : Option Members) → IfSome (option_map notice.DidOpen (option_and_then document_in document)) FitsWorld
document_fits None = tt
document_fits (Some ms) =
    members_fit (option_and_then as_str (get_member (codes "uri") ms)) (option_and_then as_i32 (get_member (codes "version") ms))
    (option_and_then as_str (get_member (codes "text") ms))

-- ---- the other notices

told_fits : {T : Type 0} (make : T → Notice) → ((x : T) → FitsWorld (make x)) → (o : Option T) → IfSome (option_map make o) FitsWorld
told_fits make each None = tt
told_fits make each (Some x) = each x

folders_by : (added removed : Option (List (List ℕ))) → IfSome (option_and_then (λ a. option_map (λ r. notice.DidChangeWorkspaceFolders a r) removed) added) FitsWorld
folders_by None removed = tt
folders_by (Some a) None = tt
folders_by (Some a) (Some r) = tt

folders_fit : (event : Option Members) → IfSome (option_and_then event_folders event) FitsWorld
folders_fit None = tt
folders_fit (Some e) = folders_by (option_and_then uris_of (get_member (codes "added") e)) (option_and_then uris_of (get_member (codes "removed") e))

bare_by : (b : Bool) (n : Notice) → FitsWorld n → IfSome (cond b (Some n) None) FitsWorld
bare_by true n h = h
bare_by false n h = tt

bare_fits : (n : Notice) → FitsWorld n → (params : Data) → IfSome (bare n params) FitsWorld
bare_fits n h params = bare_by (is_unit params) n h

-- ---- the table

abbrev Fits : Reader → Type 0
Fits r = (params : Data) → IfSome (r.read params) FitsWorld

each_fits : Each Fits readers
unfolding readers
each_fits = (
  λ params. told_fits notice.CancelRequest (λ x. tt) (request_in params),
  (
    λ params. told_fits notice.CancelProgress (λ x. tt) (token_in params),
    (
      λ params. document_fits (document_members params),
      (
        λ params. told_fits notice.DidChange (λ x. tt) (changed_in params),
        (
          λ params. told_fits notice.DidClose (λ x. tt) (take_document_uri params),
          (
            λ params. told_fits notice.DidSave (λ x. tt) (take_document_uri params),
            (
              λ params. tt,
              (
                λ params. folders_fit (event_of params),
                (
                  λ params. told_fits notice.DidChangeWatchedFiles (λ x. tt) (watched_in params),
                  (
                    bare_fits notice.CancelFlycheck tt,
                    (
                      bare_fits notice.ClearFlycheck tt,
                      (
                        λ params. told_fits notice.RunFlycheck (λ x. tt) (checked_in params),
                        (bare_fits notice.AbortRunTest tt, tt),
                      ),
                    ),
                  ),
                ),
              ),
            ),
          ),
        ),
      ),
    ),
  ),
)

by_reader : (read : Option Notice) (params : Data) (o : Option Reader) → IfSome o Fits
    → Some read ≡ option_map (λ reader. reader params) (option_map (λ r. r.read) o) → FitsWorldIfRead read
by_reader read params None h e = absurd cc
by_reader read params (Some r) h e = subst FitsWorldIfRead (sym (ap (λ o. unwrap_or o None) e)) (h params)

pub notice_fits : (method : List ℕ) (params : Data) (read : Option Notice) → Some read ≡ option_map (λ reader. reader params) (reader_of method) → FitsWorldIfRead read
notice_fits method params read e = by_reader read params (find (has_method method) readers) (found Fits (has_method method) readers each_fits) e

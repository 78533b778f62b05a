-- The calls of the table of files change what is kept at one path, and nothing of the last take.
use Rattle.std.proofs.Common.{◌≡◌, ℕ, Bool, true, false, ◌||◌, List, Option, Some, None, Ok, sym, refl, ap, subst, ◌∙◌, ⊎_elim}
use Rattle.std.specs.Prelude.{bytes_eq, cond, if◌then◌else◌}
use Rattle.std.proofs.lemmas.Bool.{cases_Bool, cond-true, cond-false, true≢false}
use Rattle.std.proofs.lemmas.Slice.Eq.{bytes_eq-Decides}
use Rattle.docs_vfs.specs.declared.file_kinds.RowState.{RowState}
use Rattle.docs_vfs.specs.declared.file_kinds.RowState.TheVariants.{Nothing, Contents, Excluded}
use Rattle.docs_vfs.specs.Files.{Files, kept_at, contents_of, contents_at, is_marked, kept_of, same_contents, set_in, mark_in}
use Rattle.docs_vfs.specs.FileLaws.{Keeps, SetsContents, KeepsTaken}
use Rattle.docs_vfs.proofs.PathLemmas.{or_left_false, or_right_false, or_right_true}
use Rattle.docs_vfs.proofs.PutLemmas.{put_keeps, same_keeps, marked_is, put_keeps_taken, set_is, mark_is, itself}

pub contents_same : (a b : Option (List ℕ)) → same_contents a b ≡ true → a ≡ b
contents_same None None same = refl
contents_same None (Some b) same = absurd (true≢false (sym same))
contents_same (Some a) None same = absurd (true≢false (sym same))
contents_same (Some a) (Some b) same = ap Some ((bytes_eq-Decides a b).0 same)

pub same_contents_itself : (a : Option (List ℕ)) → same_contents a a ≡ true
same_contents_itself None = refl
same_contents_itself (Some a) = itself a

kept_by_contents : (kept : RowState) → is_marked kept ≡ false → kept ≡ kept_of (contents_of kept)
kept_by_contents Nothing plain = refl
kept_by_contents (Contents bytes) plain = refl
kept_by_contents Excluded plain = absurd (true≢false plain)

contents_kept : (contents : Option (List ℕ)) → contents_of (kept_of contents) ≡ contents
contents_kept None = refl
contents_kept (Some bytes) = refl

stays_kept : (kept : RowState) (contents : Option (List ℕ)) → (is_marked kept || same_contents (contents_of kept) contents) ≡ true → kept ≡ (if is_marked kept then Excluded else kept_of contents)
stays_kept kept contents stays =
    ⊎_elim
    (λ marked. marked_is kept marked ∙ sym (cond-true _ _ _ marked))
    (λ plain. kept_by_contents kept plain ∙ ap kept_of (contents_same _ _ (or_right_true _ _ stays plain)) ∙ sym (cond-false _ _ _ plain))
    (cases_Bool (is_marked kept))

pub set_changes : (t u : Files) (path : List ℕ) (contents : Option (List ℕ)) (changed : Bool) → set_in t path contents ≡ Ok (u, changed) → SetsContents t path contents u changed
set_changes t u path contents changed is =
    ⊎_elim
    (λ (no_change, same, stays). record {
      kept = subst (Keeps t path _) (sym same) (same_keeps t path _ (stays_kept (kept_at t path) contents stays));
      told = (λ yes_change. absurd (true≢false (sym yes_change ∙ no_change)), λ apart. absurd (apart (ap (λ v. contents_at v path) same)));
      unchanged = λ _. same;
    })
    (λ (is_change, put, apart).
    let plain = or_left_false (is_marked (kept_at t path)) (same_contents (contents_at t path) contents) apart in
    let now : contents_at u path ≡ contents = ap contents_of (put_keeps t path (kept_of contents) u put path ∙ cond-true _ _ _ (itself path)) ∙ contents_kept contents in
    record {
      kept = λ q. put_keeps t path (kept_of contents) u put q ∙ ap (λ k. cond (bytes_eq q path) k (kept_at t q)) (sym (cond-false _ _ _ plain));
      told = (λ _ same. true≢false (sym (same_contents_itself contents) ∙ ap (λ c. same_contents c contents) (sym now ∙ same) ∙ or_right_false (is_marked (kept_at t path)) (same_contents (contents_at t path) contents) apart), λ _. is_change);
      unchanged = λ no_change. absurd (true≢false (sym is_change ∙ no_change));
    })
    (set_is t u path contents changed is)

pub mark_changes : (t u : Files) (path : List ℕ) → mark_in t path ≡ Ok u → Keeps t path Excluded u
mark_changes t u path is =
    ⊎_elim
    (λ (same, marked). subst (Keeps t path Excluded) (sym same) (same_keeps t path Excluded (marked_is (kept_at t path) marked)))
    (λ put. put_keeps t path Excluded u put)
    (mark_is t u path is)

pub set_keeps_taken : (t u : Files) (path : List ℕ) (contents : Option (List ℕ)) (changed : Bool) → set_in t path contents ≡ Ok (u, changed) → KeepsTaken t u
set_keeps_taken t u path contents changed is =
    ⊎_elim
    (λ (_, same, _). subst (KeepsTaken t) (sym same) (λ q. refl))
    (λ (_, put, _). put_keeps_taken t path (kept_of contents) u put)
    (set_is t u path contents changed is)

pub mark_keeps_taken : (t u : Files) (path : List ℕ) → mark_in t path ≡ Ok u → KeepsTaken t u
mark_keeps_taken t u path is =
    ⊎_elim (λ (same, _). subst (KeepsTaken t) (sym same) (λ q. refl)) (λ put. put_keeps_taken t path Excluded u put) (mark_is t u path is)

-- What is found first among the places of an index, told by the roots.
use Rattle.std.proofs.Common.{◌≡◌, ℕ, ◌+◌, ◌<◌, Bool, true, false, cond, ◌&&◌, ◌||◌, List, [], ◌∷◌, ◌++◌, Option, Some, None, zero, suc, refl, sym, ap, ◌∙◌, arith}
use Rattle.std.specs.Prelude.{slice_get, map, bytes_eq, MatchOption, if◌then◌else◌}
use Rattle.std.specs.List.{filter, find, list_any}
use Rattle.std.proofs.lemmas.Option.{none-some}
use Rattle.docs_vfs.specs.declared.source_roots.Root.{Root}
use Rattle.docs_vfs.proofs.RootChoice.{some_is}
use Rattle.docs_vfs.specs.Includes.{places_in, places_from, is_asked}

-- the first place whose root passes a test, from a place on
abbrev pub first_at : (ℕ → Root → Bool) → ℕ → List Root → Option ℕ
first_at test at [] = None
first_at test at (root ∷ roots) = cond (test at root) (Some at) (first_at test (at + 1) roots)

and_false : (b : Bool) → (b && false) ≡ false
and_false true = refl
and_false false = refl

-- ---- what is found among the places of a text

module _ (keep : ℕ → Bool) (text : List ℕ) where
  kept : (k any : Bool) (s x y : Option ℕ) → x ≡ cond (any && k) s y → cond k s x ≡ cond k s y
  kept true any s x y h = refl
  kept false any s x y h = h ∙ ap (λ b. cond b s y) (and_false any)

  one_more : (at : ℕ) (t : List ℕ) (ts : List (List ℕ)) (rest : List ℕ)
      → find keep (map (λ _. at) (filter (bytes_eq text) ts) ++ rest) ≡ cond (list_any (bytes_eq text) ts && keep at) (Some at) (find keep rest)
      → (b : Bool) → find keep (map (λ _. at) (cond b (t ∷ filter (bytes_eq text) ts) (filter (bytes_eq text) ts)) ++ rest)
      ≡ cond ((b || list_any (bytes_eq text) ts) && keep at) (Some at) (find keep rest)
  one_more at t ts rest h true = kept (keep at) (list_any (bytes_eq text) ts) (Some at) _ (find keep rest) h
  one_more at t ts rest h false = h

  find_in : (at : ℕ) (includes : List (List ℕ)) (rest : List ℕ)
      → find keep (map (λ _. at) (filter (bytes_eq text) includes) ++ rest) ≡ cond (list_any (bytes_eq text) includes && keep at) (Some at) (find keep rest)
  find_in at [] rest = refl
  find_in at (t ∷ ts) rest = one_more at t ts rest (find_in at ts rest) (bytes_eq text t)

  -- the root at a place is asked for, has the text as an include, and is kept
  abbrev pub counts : Bool → ℕ → Root → Bool
  counts only_local at root = is_asked only_local root && (list_any (bytes_eq text) root.include && keep at)

  if_asked : (at : ℕ) (root : Root) (rest : List ℕ) (b : Bool)
      → find keep ((if b then places_in text at root else []) ++ rest) ≡ cond (b && (list_any (bytes_eq text) root.include && keep at)) (Some at) (find keep rest)
  if_asked at root rest true = find_in at root.include rest
  if_asked at root rest false = refl

  pub find_from : (only_local : Bool) (at : ℕ) (roots : List Root) → find keep (places_from only_local text at roots) ≡ first_at (counts only_local) at roots
  find_from only_local at [] = refl
  find_from only_local at (root ∷ roots) =
      if_asked at root (places_from only_local text (at + 1) roots) (is_asked only_local root)
      ∙ ap (cond (counts only_local at root) (Some at)) (find_from only_local (at + 1) roots)

-- ---- what the first place is

pub record FirstAt (test : ℕ → Root → Bool) (from : ℕ) (roots : List Root) (at : ℕ) : Type 0 where
  pub place : ℕ
  pub is_at : at ≡ from + place
  pub root : Root
  pub is : slice_get roots place ≡ Some root
  pub passes : test at root ≡ true
  pub earlier : (i m : ℕ) (other : Root) → slice_get roots i ≡ Some other → m ≡ from + i → i < place → test m other ≡ false

abbrev pub NoneAt : (ℕ → Root → Bool) → ℕ → List Root → Type 0
NoneAt test from roots = (i m : ℕ) (other : Root) → slice_get roots i ≡ Some other → m ≡ from + i → test m other ≡ false

module _ (test : ℕ → Root → Bool) (from : ℕ) (root : Root) (roots : List Root) where
  this_fails : test from root ≡ false → (m : ℕ) (other : Root) → Some root ≡ Some other → m ≡ from + 0 → test m other ≡ false
  this_fails fails m other is place =
      let here : m ≡ from = omega arith in
      ap (λ k. test k other) here ∙ ap (test from) (sym (some_is root other is)) ∙ fails

  none_later : test from root ≡ false → NoneAt test (from + 1) roots → NoneAt test from (root ∷ roots)
  none_later fails none zero m other is place = this_fails fails m other is place
  none_later fails none (suc i) m other is place = none i m other is (omega arith)

  fails_before : (at : ℕ) (f : FirstAt test (from + 1) roots at) → test from root ≡ false → (i m : ℕ) (other : Root) → slice_get (root ∷ roots) i ≡ Some other → m ≡ from + i
      → i < suc f.place → test m other ≡ false
  fails_before at f fails zero m other is place before = this_fails fails m other is place
  fails_before at f fails (suc i) m other is place before = f.earlier i m other is (omega arith) (omega arith)

  later : (at : ℕ) → test from root ≡ false → FirstAt test (from + 1) roots at → FirstAt test from (root ∷ roots) at
  later at fails f = record {
    place = suc f.place;
    is_at = (let is = f.is_at in omega arith);
    root = f.root;
    is = f.is;
    passes = f.passes;
    earlier = fails_before at f fails;
  }

  here : test from root ≡ true → FirstAt test from (root ∷ roots) from
  here passes = record {
    place = 0;
    is_at = omega arith;
    root = root;
    is = refl;
    passes = passes;
    earlier = λ i m other is place before. absurd (omega arith);
  }

  more : (o : Option ℕ) → test from root ≡ false → MatchOption o (NoneAt test (from + 1) roots) (FirstAt test (from + 1) roots)
      → MatchOption o (NoneAt test from (root ∷ roots)) (FirstAt test from (root ∷ roots))
  more None fails none = none_later fails none
  more (Some at) fails f = later at fails f

  by_test : (b : Bool) → test from root ≡ b → MatchOption (first_at test (from + 1) roots) (NoneAt test (from + 1) roots) (FirstAt test (from + 1) roots)
      → MatchOption (cond b (Some from) (first_at test (from + 1) roots)) (NoneAt test from (root ∷ roots)) (FirstAt test from (root ∷ roots))
  by_test true is m = here is
  by_test false is m = more (first_at test (from + 1) roots) is m

pub first_is : (test : ℕ → Root → Bool) (from : ℕ) (roots : List Root) → MatchOption (first_at test from roots) (NoneAt test from roots) (FirstAt test from roots)
first_is test from [] = λ i m other is place. absurd (none-some other is)
first_is test from (root ∷ roots) = by_test test from root roots (test from root) refl (first_is test (from + 1) roots)

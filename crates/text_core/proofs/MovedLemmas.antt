-- Line starts of a text whose ends are those of another.
use Rattle.std.proofs.Common.{◌≡◌, ℕ, ◌+◌, ◌-◌, ◌<◌, ◌≤◌, true, false, inl, inr, List, [], ◌∷◌, ◌++◌, length, get_or, take, drop, map, refl, ap, sym, ◌∙◌, arith, ⊎_elim, append_assoc}
use Rattle.std.specs.Prelude.{All, count_by, nat_le}
use Rattle.std.specs.List.Sorted.{IsPartitionedBy, IsPartitionPoint}
use Rattle.std.proofs.lemmas.Bool.{cases_Bool, cases_lt, cond-true, cond-false, le-leb, leb-true, leb-false}
use Rattle.std.proofs.lemmas.List.{take-append-drop, length-take, length-drop, length-append, drop-drop, take_rest, get_or_append_left, get_or-append_right}
use Rattle.std.proofs.lemmas.List.Elements.{All-nil, All-cons, All-same, All-append, All-weaker, All-get_or}
use Rattle.text_core.specs.CommonEnds.{HasEnds}
use Rattle.text_core.specs.declared.ends.CommonEnds.{CommonEnds}
use Rattle.text_core.specs.Positions.{ends_line}
use Rattle.text_core.specs.Starts.{line_starts, starts_in}
use Rattle.text_core.proofs.StartLemmas.{length-line_starts}

-- those of two parts
pub starts_in-append : (at : ℕ) (xs ys : List ℕ) → starts_in at (xs ++ ys) ≡ starts_in at xs ++ starts_in (at + length xs) ys
starts_in-append at [] ys = ap (λ k. starts_in k ys) (omega arith)
starts_in-append at (b ∷ xs) ys =
    let next : at + 1 + length xs ≡ at + length (b ∷ xs) = omega arith in
    let rest = starts_in-append (at + 1) xs ys ∙ ap (λ k. starts_in (at + 1) xs ++ starts_in k ys) next in
    ⊎_elim
    (λ t. cond-true _ _ _ t ∙ ap (λ l. (at + 1) ∷ l) rest ∙ sym (ap (λ l. l ++ starts_in (at + length (b ∷ xs)) ys) (cond-true _ _ _ t)))
    (λ f. cond-false _ _ _ f ∙ rest ∙ sym (ap (λ l. l ++ starts_in (at + length (b ∷ xs)) ys) (cond-false _ _ _ f)))
    (cases_Bool (ends_line b))

-- they stand past the place at which the part begins, and at most at its end
abbrev pub Stands : ℕ → ℕ → ℕ → Type 0
Stands from to start = (from < start) × (start ≤ to)

pub starts_in-stand : (at : ℕ) (xs : List ℕ) → All (Stands at (at + length xs)) (starts_in at xs)
starts_in-stand at [] = All-nil _
starts_in-stand at (b ∷ xs) =
    let rest = All-weaker (Stands (at + 1) (at + 1 + length xs)) (Stands at (at + length (b ∷ xs))) (λ start stands. (omega (arith, stands.0), omega (arith, stands.1))) _ (starts_in-stand (at + 1) xs) in
    ⊎_elim
    (λ t. All-same (Stands at (at + length (b ∷ xs))) _ _ (cond-true _ _ _ t) (All-cons (Stands at (at + length (b ∷ xs))) (at + 1) _ (omega arith, omega arith) rest))
    (λ f. All-same (Stands at (at + length (b ∷ xs))) _ _ (cond-false _ _ _ f) rest)
    (cases_Bool (ends_line b))

-- a part that stands elsewhere has its starts as far past it
starts_in-shifted : (from to k : ℕ) (xs : List ℕ) → map (λ start. start - from + to) (starts_in (from + k) xs) ≡ starts_in (to + k) xs
starts_in-shifted from to k [] = refl
starts_in-shifted from to k (b ∷ xs) =
    let old : from + k + 1 ≡ from + (k + 1) = omega arith in
    let new : to + (k + 1) ≡ to + k + 1 = omega arith in
    let rest = ap (λ n. map (λ start. start - from + to) (starts_in n xs)) old ∙ starts_in-shifted from to (k + 1) xs ∙ ap (λ n. starts_in n xs) new in
    let first : from + k + 1 - from + to ≡ to + k + 1 = omega arith in
    ⊎_elim
    (λ t.
    ap (map (λ start. start - from + to)) (cond-true _ _ _ t) ∙ ap (λ n. n ∷ map (λ start. start - from + to) (starts_in (from + k + 1) xs)) first
    ∙ ap (λ l. (to + k + 1) ∷ l) rest ∙ sym (cond-true _ _ _ t))
    (λ f. ap (map (λ start. start - from + to)) (cond-false _ _ _ f) ∙ rest ∙ sym (cond-false _ _ _ f))
    (cases_Bool (ends_line b))

pub starts_in-moved : (from to : ℕ) (xs : List ℕ) → map (λ start. start - from + to) (starts_in from xs) ≡ starts_in to xs
starts_in-moved from to xs =
    let old : from ≡ from + 0 = omega arith in
    let new : to + 0 ≡ to = omega arith in
    ap (λ n. map (λ start. start - from + to) (starts_in n xs)) old ∙ starts_in-shifted from to 0 xs ∙ ap (λ n. starts_in n xs) new

-- what stands between two places
abbrev pub between : ℕ → ℕ → List ℕ → List ℕ
between from to xs = take (to - from) (drop from xs)

pub parts : (xs : List ℕ) (from to : ℕ) → from ≤ to → xs ≡ take from xs ++ (between from to xs ++ drop to xs)
parts xs from to rising =
    let whole : from + (to - from) ≡ to = omega arith in
    let rest : drop (to - from) (drop from xs) ≡ drop to xs = drop-drop (to - from) from xs ∙ ap (λ n. drop n xs) whole in
    sym (take-append-drop from xs) ∙ ap (λ l. take from xs ++ l) (sym (take-append-drop (to - from) (drop from xs)) ∙ ap (λ l. between from to xs ++ l) rest)

pub length-between : (xs : List ℕ) (from to : ℕ) → to ≤ length xs → length (between from to xs) ≡ to - from
length-between xs from to within =
    length-take (to - from) (drop from xs) ∙ omega (arith, length-drop from xs)

-- the first line and those that begin up to a place
abbrev pub first_starts : ℕ → List ℕ → List ℕ
first_starts from xs = 0 ∷ starts_in 0 (take from xs)

pub starts_parts : (xs : List ℕ) (from to : ℕ) → from ≤ to → to ≤ length xs
    → line_starts xs ≡ first_starts from xs ++ (starts_in from (between from to xs) ++ starts_in to (drop to xs))
unfolding line_starts
starts_parts xs from to rising within =
    let front : 0 + length (take from xs) ≡ from = omega (arith, length-take from xs) in
    let middle : from + length (between from to xs) ≡ to = omega (arith, length-between xs from to within) in
    ap (λ l. 0 ∷ starts_in 0 l) (parts xs from to rising)
    ∙ ap (λ l. 0 ∷ l) (starts_in-append 0 (take from xs) (between from to xs ++ drop to xs)
    ∙ ap (λ n. starts_in 0 (take from xs) ++ starts_in n (between from to xs ++ drop to xs)) front
    ∙ ap (λ l. starts_in 0 (take from xs) ++ l) (starts_in-append from (between from to xs) (drop to xs)
    ∙ ap (λ n. starts_in from (between from to xs) ++ starts_in n (drop to xs)) middle))

first_low : (xs : List ℕ) (from : ℕ) → from ≤ length xs → All (λ start. start ≤ from) (first_starts from xs)
first_low xs from within =
    let size : length (take from xs) ≡ from = omega (arith, length-take from xs) in
    All-cons (λ start. start ≤ from) 0 _ (omega arith)
    (All-weaker (Stands 0 (0 + length (take from xs))) (λ start. start ≤ from) (λ start stands. omega (arith, stands.1)) _ (starts_in-stand 0 (take from xs)))

-- a count that splits the starts at a place
abbrev pub Splits : List ℕ → ℕ → ℕ → Type 0
Splits starts place n = (low high : List ℕ) → starts ≡ low ++ high → All (λ start. start ≤ place) low → All (λ start. place < start) high → n ≡ length low

take_front : (low high : List ℕ) → take (length low) (low ++ high) ≡ low
take_front [] high = refl
take_front (x ∷ low) high = ap (λ l. x ∷ l) (take_front low high)

pub drop_front : (low high : List ℕ) → drop (length low) (low ++ high) ≡ high
drop_front [] high = refl
drop_front (x ∷ low) high = drop_front low high

take_low : (n : ℕ) (low high : List ℕ) → n ≡ length low → take n (low ++ high) ≡ low
take_low n low high same = ap (λ k. take k (low ++ high)) same ∙ take_front low high

pub front_starts : (xs starts : List ℕ) (from to n : ℕ) → from ≤ to → to ≤ length xs → starts ≡ line_starts xs → Splits starts from n → take n starts ≡ first_starts from xs
front_starts xs starts from to n rising within all splits =
    let middle = starts_in from (between from to xs) in
    let last = starts_in to (drop to xs) in
    let here : starts ≡ first_starts from xs ++ (middle ++ last) = all ∙ starts_parts xs from to rising within in
    let late = All-append (λ start. from < start) middle last
    (All-weaker (Stands from (from + length (between from to xs))) (λ start. from < start) (λ start stands. stands.0) _ (starts_in-stand from (between from to xs)))
    (All-weaker (Stands to (to + length (drop to xs))) (λ start. from < start) (λ start stands. omega (arith, stands.0)) _ (starts_in-stand to (drop to xs))) in
    let count = splits (first_starts from xs) (middle ++ last) here (first_low xs from (omega arith)) late in
    ap (take n) here ∙ take_low n (first_starts from xs) (middle ++ last) count

-- as many starts are at most a place as LF stand before it, and one
pub starts_up_to-count : (xs starts : List ℕ) (place n : ℕ) → place ≤ length xs → starts ≡ line_starts xs → Splits starts place n → n ≡ count_by ends_line (take place xs) + 1
unfolding line_starts
starts_up_to-count xs starts place n within all splits =
    let size : 0 + length (take place xs) ≡ place = omega (arith, length-take place xs) in
    let here : starts ≡ first_starts place xs ++ starts_in place (drop place xs) =
    all ∙ ap (λ l. 0 ∷ starts_in 0 l) (sym (take-append-drop place xs))
    ∙ ap (λ l. 0 ∷ l) (starts_in-append 0 (take place xs) (drop place xs) ∙ ap (λ k. starts_in 0 (take place xs) ++ starts_in k (drop place xs)) size) in
    let late = All-weaker (Stands place (place + length (drop place xs))) (λ start. place < start) (λ start stands. stands.0) _ (starts_in-stand place (drop place xs)) in
    splits (first_starts place xs) (starts_in place (drop place xs)) here (first_low xs place within) late ∙ length-line_starts (take place xs)

pub back_starts : (xs starts : List ℕ) (from to n : ℕ) → from ≤ to → to ≤ length xs → starts ≡ line_starts xs → Splits starts to n → drop n starts ≡ starts_in to (drop to xs)
back_starts xs starts from to n rising within all splits =
    let middle = starts_in from (between from to xs) in
    let last = starts_in to (drop to xs) in
    let low = first_starts from xs ++ middle in
    let here : starts ≡ low ++ last = all ∙ starts_parts xs from to rising within ∙ sym (append_assoc (first_starts from xs) middle last) in
    let size : from + length (between from to xs) ≡ to = omega (arith, length-between xs from to within) in
    let early = All-append (λ start. start ≤ to) (first_starts from xs) middle
    (All-weaker (λ start. start ≤ from) (λ start. start ≤ to) (λ start low. omega arith) (first_starts from xs) (first_low xs from (omega arith)))
    (All-weaker (Stands from (from + length (between from to xs))) (λ start. start ≤ to) (λ start stands. omega (arith, stands.1)) _ (starts_in-stand from (between from to xs))) in
    let late = All-weaker (Stands to (to + length (drop to xs))) (λ start. to < start) (λ start stands. stands.0) _ (starts_in-stand to (drop to xs)) in
    let count = splits low last here early late in
    ap (drop n) here ∙ ap (λ k. drop k (low ++ last)) count ∙ drop_front low last

-- the starts past one place and up to another, by the counts that split the starts there
pub between_starts : (xs starts : List ℕ) (from to n m : ℕ) → from ≤ to → to ≤ length xs → starts ≡ line_starts xs → Splits starts from n → Splits starts to m
    → n ≤ length starts → m ≤ length starts → (n ≤ m) × (take (m - n) (drop n starts) ≡ starts_in from (between from to xs))
between_starts xs starts from to n m rising within all low high first last =
    let middle = starts_in from (between from to xs) in
    let tail = starts_in to (drop to xs) in
    let whole : from + (to - from) ≡ to = omega arith in
    let size : from + length (between from to xs) ≡ to = omega (arith, length-between xs from to within) in
    let cut : drop from xs ≡ between from to xs ++ drop to xs =
    sym (take-append-drop (to - from) (drop from xs)) ∙ ap (λ l. between from to xs ++ l) (drop-drop (to - from) from xs ∙ ap (λ k. drop k xs) whole) in
    let past : drop n starts ≡ middle ++ tail =
    back_starts xs starts from from n (omega arith) (omega arith) all low ∙ ap (starts_in from) cut ∙ starts_in-append from (between from to xs) (drop to xs)
    ∙ ap (λ k. middle ++ starts_in k (drop to xs)) size in
    let behind : drop m starts ≡ tail = back_starts xs starts from to m rising within all high in
    let left : length starts - n ≡ length middle + length tail = sym (length-drop n starts) ∙ ap length past ∙ length-append middle tail in
    let rest : length starts - m ≡ length tail = sym (length-drop m starts) ∙ ap length behind in (
      omega (arith, left, rest),
      ap (take (m - n)) past ∙ take_low (m - n) middle tail (omega (arith, left, rest)),
    )

-- the starts past one place and up to another, moved, fit
pub between_fits : (xs starts : List ℕ) (from to at n m : ℕ) → from ≤ to → to ≤ length xs → starts ≡ line_starts xs → Splits starts from n → Splits starts to m
    → n ≤ length starts → m ≤ length starts → to - from + at < 4294967296
    → All (λ start. (from ≤ start) × (start - from + at < 4294967296)) (take (m - n) (drop n starts))
between_fits xs starts from to at n m rising within all low high first last small =
    let here = between_starts xs starts from to n m rising within all low high first last in
    let size : from + length (between from to xs) ≡ to = omega (arith, length-between xs from to within) in
    All-same (λ start. (from ≤ start) × (start - from + at < 4294967296)) _ _ here.1
    (All-weaker (Stands from (from + length (between from to xs))) (λ start. (from ≤ start) × (start - from + at < 4294967296))
    (λ start stands. (omega (arith, stands.0), omega (arith, stands.1, size))) _ (starts_in-stand from (between from to xs)))

-- the place at which a search divides the starts
low_at : (low high : List ℕ) (place n d : ℕ) → All (λ start. start ≤ place) low → n < length low → get_or (low ++ high) n d ≤ place
low_at low high place n d all here =
    let same = get_or_append_left low high d n here in
    omega (arith, same, All-get_or (λ start. start ≤ place) low n d here all)

high_at : (low high : List ℕ) (place n d : ℕ) → All (λ start. place < start) high → length low ≤ n → n < length (low ++ high) → place < get_or (low ++ high) n d
high_at low high place n d all past here =
    let same = get_or-append_right low high (length low) n d refl past in
    omega (arith, same, All-get_or (λ start. place < start) high (n - length low) d (omega (arith, length-append low high)) all)

divides : (low high : List ℕ) (place : ℕ) → All (λ start. start ≤ place) low → All (λ start. place < start) high → IsPartitionedBy (λ start. nat_le start place) (low ++ high)
divides low high place early late i j d before here holds =
    elim (cases_lt i (length low)) [
      | inl first ↦ le-leb _ _ (low_at low high place i d early first)
      | inr past ↦
          let later = high_at low high place j d late (omega arith) here in
          absurd (omega (arith, leb-true _ _ holds))
    ]

pub divided : (low high : List ℕ) (place n : ℕ) → All (λ start. start ≤ place) low → All (λ start. place < start) high → n ≤ length (low ++ high)
    → (IsPartitionedBy (λ start. nat_le start place) (low ++ high) → IsPartitionPoint (λ start. nat_le start place ≡ true) (λ start. nat_le start place ≡ false) (low ++ high) n)
    → n ≡ length low
divided low high place n early late within finds =
    let point = finds (divides low high place early late) in
    let size = length-append low high in
    elim (cases_lt n (length low)) [
      | inl short ↦
          let above = point.1 n 0 (omega arith) (omega (arith, size)) in
          absurd (omega (arith, leb-false _ _ above, low_at low high place n 0 early short))
      | inr long ↦ elim (cases_lt (length low) n) [
        | inl past ↦
            let below = point.0 (length low) 0 (omega arith) past in
            absurd (omega (arith, leb-true _ _ below, high_at low high place (length low) 0 late (omega arith) (omega (arith, size))))
        | inr here ↦ omega arith
      ]
    ]

-- the starts behind a place, moved, fit
pub moved_fits : (before text : List ℕ) (ends : CommonEnds) (starts : List ℕ) (size n : ℕ) → HasEnds before text ends → length text < 4294967296 → size ≡ length before
    → starts ≡ line_starts before → Splits starts (size - ends.back) n
    → All (λ start. (size - ends.back ≤ start) × (start - (size - ends.back) + (length text - ends.back) < 4294967296)) (take (length starts - n) (drop n starts))
moved_fits before text ends starts size n has small same all splits =
    let place = size - ends.back in
    let behind : drop n starts ≡ starts_in place (drop place before) =
    back_starts before starts ends.front place n (omega (arith, has.within_before)) (omega arith) all splits in
    let left : length (drop place before) ≡ ends.back = omega (arith, length-drop place before, has.within_before) in
    All-same (λ start. (place ≤ start) × (start - place + (length text - ends.back) < 4294967296)) _ _ (take_rest starts n ∙ behind)
    (All-weaker (Stands place (place + length (drop place before))) (λ start. (place ≤ start) × (start - place + (length text - ends.back) < 4294967296))
    (λ start stands. (omega (arith, stands.0), omega (arith, stands.1, has.within))) _ (starts_in-stand place (drop place before)))

-- the starts of both ends, with those of what stands between them
pub moved_all : (before text : List ℕ) (ends : CommonEnds) (starts : List ℕ) (size n m : ℕ) → HasEnds before text ends → size ≡ length before → starts ≡ line_starts before
    → Splits starts ends.front n → Splits starts (size - ends.back) m
    → (take n starts ++ starts_in ends.front (between ends.front (length text - ends.back) text))
    ++ map (λ start. start - (size - ends.back) + (length text - ends.back)) (take (length starts - m) (drop m starts)) ≡ line_starts text
moved_all before text ends starts size n m has same all front back =
    let place = size - ends.back in
    let end = length text - ends.back in
    let middle = starts_in ends.front (between ends.front end text) in
    let first : take n starts ≡ first_starts ends.front text =
    front_starts before starts ends.front place n (omega (arith, has.within_before)) (omega arith) all front ∙ ap (λ l. 0 ∷ starts_in 0 l) (sym has.front) in
    let ended : drop place before ≡ drop end text = ap (λ k. drop (k - ends.back) before) same ∙ sym has.back in
    let behind : take (length starts - m) (drop m starts) ≡ starts_in place (drop end text) =
    take_rest starts m ∙ back_starts before starts ends.front place m (omega (arith, has.within_before)) (omega arith) all back ∙ ap (starts_in place) ended in
    let moved : map (λ start. start - place + end) (take (length starts - m) (drop m starts)) ≡ starts_in end (drop end text) =
    ap (map (λ start. start - place + end)) behind ∙ starts_in-moved place end (drop end text) in
    ap (λ l. (l ++ middle) ++ map (λ start. start - place + end) (take (length starts - m) (drop m starts))) first
    ∙ ap (λ l. (first_starts ends.front text ++ middle) ++ l) moved
    ∙ append_assoc (first_starts ends.front text) middle (starts_in end (drop end text))
    ∙ sym (starts_parts text ends.front end (omega (arith, has.within)) (omega arith))

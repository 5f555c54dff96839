-- A list that is written from front to back.
-- Assumes nothing.
use Prim.Native.Nat.{ℕ, ◌+◌, ◌*◌, ◌≤◌}
use mathlib.Core.Path.{◌≡◌, refl, sym, ap, ◌∙◌}
use mathlib.Core.List.{List, [], ◌∷◌, ◌++◌, append_assoc, append-nil}
use native.Mathlib.Numerals.{add-one}
use native.Mathlib.Omega.{arith}
use lib.ListN.{length, take, drop, set, length-append, take-append-drop}
use lib.Seq.{drop-append-add, drop-drop, take_at, length-take-le, set_split}
use Rattle.block.specs.Block.{field, fields, section, block, size, tabulate}
use Rattle.block.specs.Inner.{put}
use Rattle.block.proofs.Stored.{length_tabulate, length_fields, fields_append, pair_at, put_at}
use Rattle.depth.specs.Depth.{over}
use Rattle.depth.specs.Inner.{over_at}

-- a field behind the front
pub put_over : (p d : List ℕ) (x n : ℕ) → length p ≡ n → n + 2 ≤ length d → put n x (over p d) ≡ over (p ++ field x) d
put_over p d x n e h =
    let next : length p + 2 ≡ length (p ++ field x) = sym (length-append p (field x)) in
    ap (λ (l : List ℕ). put n x (p ++ l)) (pair_at (length p) (length p + 2) d refl (omega arith))
    ∙ put_at p (drop (length p + 2) d) _ _ x n e
    ∙ sym (append_assoc p (field x) (drop (length p + 2) d))
    ∙ ap (λ (k : ℕ). p ++ field x ++ drop k d) next

-- more bytes behind the front
pub over_over : (p x d : List ℕ) (n : ℕ) → length p ≡ n → over_at n x (over p d) ≡ over (p ++ x) d
unfolding over_at
over_over p x d n e =
    let behind : drop (length (p ++ x)) (over p d) ≡ drop (length (p ++ x)) d =
    ap (λ (k : ℕ). drop k (over p d)) (length-append p x) ∙ drop-append-add p (drop (length p) d) (length x) ∙ drop-drop (length x) (length p) d
    ∙ ap (λ (k : ℕ). drop k d) (sym (length-append p x)) in
    ap (λ (l : List ℕ). over (l ++ x) (over p d)) (take_at p (drop (length p) d) n e) ∙ ap (λ (l : List ℕ). p ++ x ++ l) behind

-- the front of a list over itself
over_take : (n : ℕ) (d : List ℕ) → n ≤ length d → over (take n d) d ≡ d
over_take n d h = ap (λ (k : ℕ). take n d ++ drop k d) (length-take-le n d h) ∙ take-append-drop n d

-- no words and one more of them, from a place on
pub none_stored : (word : ℕ → ℕ) (at : ℕ) (d : List ℕ) → at ≤ length d → d ≡ over_at at (fields (tabulate word 0)) d
unfolding tabulate fields over_at
none_stored word at d h = sym (ap (λ (l : List ℕ). over l d) (append-nil (take at d)) ∙ over_take at d h)

pub one_more_stored : (word : ℕ → ℕ) (at i : ℕ) (d₀ : List ℕ) {d e : List ℕ} → at + 2 * i + 2 ≤ length d₀ → d ≡ over_at at (fields (tabulate word i)) d₀ → e ≡ put (at + 2 * i) (word i) d
    → e ≡ over_at at (fields (tabulate word (i + 1))) d₀
unfolding tabulate fields over_at
one_more_stored word at i d₀ room before turn =
    let words : List ℕ = fields (tabulate word i) in
    let long : length (take at d₀ ++ words) ≡ at + 2 * i =
    simp (length-append, length_fields, length_tabulate) (omega (arith, length-take-le at d₀ (omega arith))) in
    let more : take at d₀ ++ words ++ field (word i) ≡ take at d₀ ++ fields (tabulate word i ++ word i ∷ []) =
    append_assoc (take at d₀) words (field (word i)) ∙ ap (λ (x : List ℕ). take at d₀ ++ x) (sym (fields_append (tabulate word i) (word i ∷ []))) in
    rw (add-one i)
    (turn ∙ ap (put (at + 2 * i) (word i)) before ∙ put_over (take at d₀ ++ words) d₀ (word i) (at + 2 * i) long room ∙ ap (λ (p : List ℕ). over p d₀) more)

-- a section: its count, and its words behind it
pub section_put : (at n : ℕ) (ws d d₁ d₂ : List ℕ) → length ws ≡ n → at + 2 ≤ length d → d₁ ≡ put at n d → d₂ ≡ over_at (at + 2) (fields ws) d₁
    → d₂ ≡ over_at at (section ws) d
unfolding section over_at
section_put at n ws d d₁ d₂ e h count words =
    let front : length (take at d) ≡ at = length-take-le at d (omega arith) in
    let counted : length (take at d ++ field n) ≡ at + 2 = simp length-append (omega arith) in
    let begun : d₁ ≡ over (take at d ++ field n) d =
    count ∙ ap (put at n) (sym (over_take at d (omega arith))) ∙ put_over (take at d) d n at front h in
    words ∙ ap (over_at (at + 2) (fields ws)) begun ∙ over_over (take at d ++ field n) (fields ws) d (at + 2) counted
    ∙ ap (λ (p : List ℕ). over p d) (append_assoc (take at d) (field n) (fields ws)) ∙ ap (λ (k : ℕ). over_at at (field k ++ fields ws) d) (sym e)

length_section : (ws : List ℕ) → length (section ws) ≡ 2 + 2 * length ws
unfolding section
length_section ws = simp length_fields (omega arith)

-- a block, from its system to its last section
pub block_put : (n row w : ℕ) (ys cbs crs d d₁ d₂ d₃ d₄ d₅ : List ℕ) → length ys ≡ w → length cbs ≡ w → size w ≤ length d
    → d₁ ≡ set d 0 n → d₂ ≡ put 1 row d₁ → d₃ ≡ over_at 3 (section ys) d₂ → d₄ ≡ over_at (5 + 2 * w) (section cbs) d₃ → d₅ ≡ over_at (7 + 4 * w) (section crs) d₄
    → d₅ ≡ over (block n row ys cbs crs) d
unfolding block
block_put n row w ys cbs crs d d₁ d₂ d₃ d₄ d₅ ly lb h e₁ e₂ e₃ e₄ e₅ =
    let first : List ℕ = n ∷ field row in
    let system : d₁ ≡ over (n ∷ []) d = e₁ ∙ set_split d 0 n (omega arith) in
    let number : d₂ ≡ over first d = e₂ ∙ ap (put 1 row) system ∙ put_over (n ∷ []) d row 1 refl (omega arith) in
    let luma : d₃ ≡ over (first ++ section ys) d = e₃ ∙ ap (over_at 3 (section ys)) number ∙ over_over first (section ys) d 3 refl in
    let cb_place : length (first ++ section ys) ≡ 5 + 2 * w = simp length_section (omega arith) in
    let cb : d₄ ≡ over (first ++ section ys ++ section cbs) d =
    e₄ ∙ ap (over_at (5 + 2 * w) (section cbs)) luma ∙ over_over (first ++ section ys) (section cbs) d (5 + 2 * w) cb_place in
    let cr_place : length (first ++ section ys ++ section cbs) ≡ 7 + 4 * w = simp (length-append, length_section) (omega arith) in
    e₅ ∙ ap (over_at (7 + 4 * w) (section crs)) cb ∙ over_over (first ++ section ys ++ section cbs) (section crs) d (7 + 4 * w) cr_place

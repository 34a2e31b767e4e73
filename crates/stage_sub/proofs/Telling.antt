-- A history tells its list and its end.
use Rattle.std.proofs.Common.{◌≡◌, List, [], ◌∷◌, ◌++◌, refl, sym, ap, ◌∙◌, append-nil}
use Rattle.elem_core.specs.Tree.{Tree}
use Rattle.elem_core.specs.declared.item.Item.{Item}
use Rattle.stream_model.specs.Outlook.{End, unended, ended, failed}
use Rattle.stage_core.specs.Held.{told}
use Rattle.stage_core.proofs.Told.{told-append}

pub told_lists : (l k : List Tree) (e d : End) → told l e ≡ told k d → l ≡ k
told_lists [] [] e d h = refl
told_lists [] (t ∷ k) unended d h = cc
told_lists [] (t ∷ k) ended d h = cc
told_lists [] (t ∷ k) (failed c) d h = cc
told_lists (t ∷ l) [] e unended h = cc
told_lists (t ∷ l) [] e ended h = cc
told_lists (t ∷ l) [] e (failed c) h = cc
told_lists (t ∷ l) (u ∷ k) e d h =
    let first : t ≡ u = cc in
    let rest : told l e ≡ told k d = cc in
    ap (λ x. x ∷ l) first ∙ ap (λ (xs : List Tree). u ∷ xs) (told_lists l k e d rest)

pub told_ends : (l k : List Tree) (e d : End) → told l e ≡ told k d → e ≡ d
told_ends [] [] unended unended h = refl
told_ends [] [] unended ended h = cc
told_ends [] [] unended (failed c) h = cc
told_ends [] [] ended unended h = cc
told_ends [] [] ended ended h = refl
told_ends [] [] ended (failed c) h = cc
told_ends [] [] (failed c) unended h = cc
told_ends [] [] (failed c) ended h = cc
told_ends [] [] (failed c) (failed d) h = let x : c ≡ d = cc in ap (λ y. failed y) x
told_ends [] (t ∷ k) unended d h = cc
told_ends [] (t ∷ k) ended d h = cc
told_ends [] (t ∷ k) (failed c) d h = cc
told_ends (t ∷ l) [] e unended h = cc
told_ends (t ∷ l) [] e ended h = cc
told_ends (t ∷ l) [] e (failed c) h = cc
told_ends (t ∷ l) (u ∷ k) e d h = let rest : told l e ≡ told k d = cc in told_ends l k e d rest

-- a history of a list, and what came behind it
pub record Then (l : List Tree) (e : End) (k : List Tree) (d : End) (l' : List Tree) (e' : End) : Type 0 where
  pub list : l' ≡ l ++ k
  pub end : e' ≡ d

pub told_then : (was now came : List Item) (l k : List Tree) (e d : End) (l' : List Tree) (e' : End) → was ≡ told l e → e ≡ unended → came ≡ told k d → now ≡ told l' e' → was ++ came ≡ now → Then l e k d l' e'
told_then was now came l k e d l' e' a u b c h =
    let both : told l' e' ≡ told (l ++ k) d =
    sym c ∙ sym h ∙ ap (λ (x : List Item). x ++ came) (a ∙ ap (told l) u) ∙ ap (λ (x : List Item). told l unended ++ x) b ∙ sym (told-append l k d) in
    record { list = told_lists l' (l ++ k) e' d both; end = told_ends l' (l ++ k) e' d both }

-- where nothing came
pub told_still : (was now : List Item) (l : List Tree) (e : End) (l' : List Tree) (e' : End) → was ≡ told l e → now ≡ told l' e' → was ++ [] ≡ now → (l' ≡ l) × (e' ≡ e)
told_still was now l e l' e' a c h =
    let both : told l' e' ≡ told l e = sym c ∙ sym h ∙ append-nil was ∙ a in
    (told_lists l' l e' e both, told_ends l' l e' e both)

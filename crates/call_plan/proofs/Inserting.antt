-- Plans that are shared, and what stays true of them where one is added.
use Rattle.std.proofs.Common.{◌≡◌, ℕ, ◌<◌, List, [], ◌∷◌, ◌++◌, map, length, bytes_eq, false, Option, option_map, is_some, Bor, Global, sym, ◌∙◌, ap, arith, length-append}
use Rattle.std.proofs.lemmas.List.{map-append}
use Rattle.std.proofs.lemmas.List.Elements.{All-push}
use Rattle.std.specs.declared.sync.Arc.{Arc}
use Rattle.std.specs.Arc.{arc_value}
use Rattle.std.specs.List.{find}
use Rattle.call_plan.specs.Plan.{PlanRecord, IsLawful}
use Rattle.call_plan.specs.Plans.{plan_at, AreLawful}
use Rattle.call_plan.proofs.Repeats.{find-map, is_some-find, list_any-map, has_repeat-push, map-map}

abbrev pub Shared : Type 0
Shared = Arc PlanRecord Global

-- the shared plan that a look-up finds is the plan of that path
pub plan_at-map : (path : List ℕ) (plans : List Shared) (r : Option (Bor Shared))
    → option_map (λ (x : Bor Shared). x.now) r ≡ find (λ (a : Shared). bytes_eq (arc_value a).path path) plans
    → option_map (λ (x : Bor Shared). arc_value x.now) r ≡ plan_at path (map arc_value plans)
plan_at-map path plans r found =
    map-map arc_value (λ (x : Bor Shared). x.now) r ∙ ap (option_map arc_value) found ∙ sym (find-map (λ (p : PlanRecord). bytes_eq p.path path) arc_value plans)

-- a lawful plan of another path, behind fewer than 256 lawful plans
pub AreLawful-push : (plans : List PlanRecord) (p : PlanRecord) → AreLawful plans → IsLawful p → is_some (plan_at p.path plans) ≡ false → length plans < 256 → AreLawful (plans ++ p ∷ [])
AreLawful-push plans p were is new room = record {
  lawful = All-push IsLawful plans p were.lawful is;
  few = rw (length-append plans (p ∷ [])) (omega arith);
  distinct =
      rw (map-append (λ (q : PlanRecord). q.path) plans (p ∷ []))
      (has_repeat-push (map (λ (q : PlanRecord). q.path) plans) p.path were.distinct
      (list_any-map (λ path. bytes_eq path p.path) (λ (q : PlanRecord). q.path) plans
      ∙ sym (is_some-find (λ (q : PlanRecord). bytes_eq q.path p.path) plans) ∙ new));
}

-- the plans that are shared, with one more
pub AreLawful-shared : (plans : List Shared) (a : Shared) → AreLawful (map arc_value plans) → IsLawful (arc_value a) → is_some (plan_at (arc_value a).path (map arc_value plans)) ≡ false
    → length (map arc_value plans) < 256 → AreLawful (map arc_value (plans ++ a ∷ []))
AreLawful-shared plans a were is new room = rw (map-append (arc_value {X = PlanRecord} {Z = Global}) plans (a ∷ [])) (AreLawful-push _ (arc_value a) were is new room)

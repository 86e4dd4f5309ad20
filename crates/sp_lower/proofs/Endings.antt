-- A program is lowered under the numbering that its own temporaries make.
use Rattle.std.proofs.Common.{◌≡◌, ℕ, ◌+◌, Bool, List, [], Option, Result, Ok, Err, ap, sym, ◌∙◌}
use Rattle.std.specs.Prelude.{IfOk}
use Rattle.sp_types.specs.Programs.{Program}
use Rattle.sp_ir.specs.declared.command.Routine.{Routine}
use Rattle.sp_ir.specs.Programs.{Object}
use Rattle.sp_lower_draft.specs.Context.{Context}
use Rattle.sp_lower_draft.specs.Draft.{Left}
use Rattle.sp_lower_body.specs.Frames.{Initial}
use Rattle.sp_lower_functions.specs.Functions.{Part, lower_functions, temporary_counts}
use Rattle.sp_lower_objects.specs.Initials.{initials_from}
use Rattle.sp_lower.specs.Programs.{beginning, defined, first_local, context_with, program_context, start_due, first_site, lowering, counts_in, site_with, lowering_at, counts_with, objects_with, lowered_with, context_of_lowered, lowered_program, IsNumbered, IsNumberedBy}
use Rattle.sp_lower.specs.Answers.{EndsAt, Ends}
use Rattle.sp_lower.specs.declared.limits.Outcome.{Outcome}
use Rattle.sp_lower.specs.declared.limits.Outcome.TheVariants.{Whole, Past}

-- what was known before is what the program says
abbrev pub Known : Program → List (List ℕ) → List (Option Routine) → List Bool → List Initial → Bool → Type 0
Known p names rs ps is due =
    ((n : ℕ) → context_with p rs ps n ≡ program_context p names n)
    × (is ≡ initials_from p.structs 0 p.objects) × (due ≡ start_due p names)

-- so it is the lowering where sites begin there
lowering-known : (p : Program) (names : List (List ℕ)) (rs : List (Option Routine)) (ps : List Bool) (is : List Initial) (due : Bool) (counts : List ℕ)
    → Known p names rs ps is due → lowering_at p rs ps is (site_with p due counts) counts ≡ lowering p names counts
lowering-known p names rs ps is due counts known =
    ap (λ b. lowering_at p rs ps is (site_with p b counts) counts) known.2
    ∙ ap (λ (c : Context). lower_functions c is 0 (first_local p) (defined p) counts beginning) (known.0 (first_site p names counts))
    ∙ ap (λ (xs : List Initial). lower_functions (program_context p names (first_site p names counts)) xs 0 (first_local p) (defined p) counts beginning) known.1

counts-known : (p : Program) (names : List (List ℕ)) (rs : List (Option Routine)) (ps : List Bool) (is : List Initial) (due : Bool)
    → Known p names rs ps is due → counts_with p rs ps is due ≡ counts_in p names
counts-known p names rs ps is due known =
    ap (λ (x : Left (List Part)). temporary_counts x.pure) (lowering-known p names rs ps is due [] known)

at-context : (p : Program) (names : List (List ℕ)) (rs : List (Option Routine)) (ps : List Bool) (is : List Initial) (due : Bool) (site : ℕ) (w : Left (List Part))
    → Known p names rs ps is due → IsNumberedBy p rs ps is due site w → context_with p rs ps site ≡ context_of_lowered p names
at-context p names rs ps is due site w known numbered =
    let here : site ≡ first_site p names (counts_in p names) =
    numbered.first
    ∙ ap (λ ns. site_with p due ns) (counts-known p names rs ps is due known)
    ∙ ap (λ b. site_with p b (counts_in p names)) known.2 in
    known.0 site ∙ ap (λ n. program_context p names n) here

is-numbered : (p : Program) (names : List (List ℕ)) (rs : List (Option Routine)) (ps : List Bool) (is : List Initial) (due : Bool) (site : ℕ) (w : Left (List Part))
    → Known p names rs ps is due → IsNumberedBy p rs ps is due site w → IsNumbered p names w
is-numbered p names rs ps is due site w known numbered =
    let same : counts_with p rs ps is due ≡ counts_in p names = counts-known p names rs ps is due known in
    record {
      functions = numbered.functions
          ∙ ap (λ n. lowering_at p rs ps is n (counts_with p rs ps is due)) numbered.first
          ∙ ap (λ ns. lowering_at p rs ps is (site_with p due ns) ns) same
          ∙ lowering-known p names rs ps is due (counts_in p names) known;
      counts = numbered.counts ∙ same;
    }

is-whole : (p : Program) (names : List (List ℕ)) (rs : List (Option Routine)) (ps : List Bool) (is : List Initial) (due : Bool) (site : ℕ) (w : Left (List Part)) (os : List Object)
    → Known p names rs ps is due → IsNumberedBy p rs ps is due site w → os ≡ objects_with p names (context_with p rs ps site) is due w
    → lowered_with p os w ≡ lowered_program p names w
is-whole p names rs ps is due site w os known numbered made =
    ap (λ (xs : List Object). lowered_with p xs w)
    (made
    ∙ ap (λ (c : Context). objects_with p names c is due w) (at-context p names rs ps is due site w known numbered)
    ∙ ap (λ (xs : List Initial). objects_with p names (context_of_lowered p names) xs due w) known.1
    ∙ ap (λ b. objects_with p names (context_of_lowered p names) (initials_from p.structs 0 p.objects) b w) known.2)

pub ends : (p : Program) (names : List (List ℕ)) (rs : List (Option Routine)) (ps : List Bool) (is : List Initial) (due : Bool) (site : ℕ) (w : Left (List Part)) (os : List Object) (o : Outcome)
    → Known p names rs ps is due → IsNumberedBy p rs ps is due site w → os ≡ objects_with p names (context_with p rs ps site) is due w
    → EndsAt (lowered_with p os w) o → Ends p names o
ends p names rs ps is due site w os (Whole l) known numbered made end = (
  record {
    functions = w;
    numbered = is-numbered p names rs ps is due site w known numbered;
    is = end.0 ∙ is-whole p names rs ps is due site w os known numbered made;
  },
  end.1,
)
ends p names rs ps is due site w os (Past kind) known numbered made end = record {
  whole = lowered_with p os w;
  lowering = record {
    functions = w;
    numbered = is-numbered p names rs ps is due site w known numbered;
    is = is-whole p names rs ps is due site w os known numbered made;
  };
  past = end;
}

pub if-ok : {A E : Type 0} (r : Result A E) (P Q : A → Type 0) → ((x : A) → P x → Q x) → IfOk r P → IfOk r Q
if-ok (Ok x) P Q f h = f x h
if-ok (Err e) P Q f h = tt

-- Frames, bindings and fields that were written as numbers can be read again.
use Rattle.swift_explorer.proofs.Prelude.{◌≡◌, ℕ, ℤ, List, ◌++◌, reverse, sym, ◌∙◌, ap, Option, reverse-reverse, Fault, FrameView, option_numbers, list_numbers, value_numbers, number_numbers, wide_numbers, fault_numbers, values_numbers, ids_numbers, binding_numbers, bindings_numbers, frame_numbers, rows_numbers, fields_numbers}
use Rattle.swift_explorer.specs.FrameNumbers.{groups_numbers}
use Rattle.swift_explorer.proofs.Codes.{IsCode, peel, pair_code, option_code, list_code, value_code, number_code, wide_code, fault_code}

pub values_code : IsCode values_numbers
values_code = list_code value_numbers value_code

pub ids_code : IsCode ids_numbers
ids_code = list_code number_numbers number_code

pub binding_code : IsCode binding_numbers
binding_code = pair_code number_numbers value_numbers number_code value_code

same_reversed : {A : Type 0} (xs ys : List A) → reverse xs ≡ reverse ys → xs ≡ ys
same_reversed xs ys e = sym (reverse-reverse xs) ∙ ap (λ l. reverse l) e ∙ reverse-reverse ys

reversed_code : {A : Type 0} (f : A → List ℤ) → IsCode f → IsCode (λ (xs : List A). list_numbers f (reverse xs))
reversed_code f c = record {
  read = λ a b r s e.
      let one = (list_code f c).read (reverse a) (reverse b) r s e in
      (same_reversed a b one.0, one.1);
}

pub bindings_code : IsCode bindings_numbers
bindings_code = reversed_code binding_numbers binding_code

pub groups_code : IsCode groups_numbers
groups_code = reversed_code number_numbers number_code

abbrev frame_by : ℕ → ℕ → List ℤ → List ℕ → List (ℕ × ℤ) → List ℕ → Option Fault → ℕ → ℕ → FrameView
frame_by m l v h o g p n k = record { method = m; instruction = l; variables = v; handles = h; own = o; groups = g; pending = p; made = n; opened = k }

pub frame_code : IsCode frame_numbers
frame_code = record {
  read = λ a b r s e.
      let p0 = peel number_numbers number_code a.method b.method (number_numbers a.instruction ++ (values_numbers a.variables ++ (ids_numbers a.handles ++ (bindings_numbers a.own ++ (groups_numbers a.groups ++ ((option_numbers fault_numbers) a.pending ++ (wide_numbers a.made ++ wide_numbers a.opened))))))) (number_numbers b.instruction ++ (values_numbers b.variables ++ (ids_numbers b.handles ++ (bindings_numbers b.own ++ (groups_numbers b.groups ++ ((option_numbers fault_numbers) b.pending ++ (wide_numbers b.made ++ wide_numbers b.opened))))))) r s e in
      let p1 = peel number_numbers number_code a.instruction b.instruction (values_numbers a.variables ++ (ids_numbers a.handles ++ (bindings_numbers a.own ++ (groups_numbers a.groups ++ ((option_numbers fault_numbers) a.pending ++ (wide_numbers a.made ++ wide_numbers a.opened)))))) (values_numbers b.variables ++ (ids_numbers b.handles ++ (bindings_numbers b.own ++ (groups_numbers b.groups ++ ((option_numbers fault_numbers) b.pending ++ (wide_numbers b.made ++ wide_numbers b.opened)))))) r s p0.1 in
      let p2 = peel values_numbers values_code a.variables b.variables (ids_numbers a.handles ++ (bindings_numbers a.own ++ (groups_numbers a.groups ++ ((option_numbers fault_numbers) a.pending ++ (wide_numbers a.made ++ wide_numbers a.opened))))) (ids_numbers b.handles ++ (bindings_numbers b.own ++ (groups_numbers b.groups ++ ((option_numbers fault_numbers) b.pending ++ (wide_numbers b.made ++ wide_numbers b.opened))))) r s p1.1 in
      let p3 = peel ids_numbers ids_code a.handles b.handles (bindings_numbers a.own ++ (groups_numbers a.groups ++ ((option_numbers fault_numbers) a.pending ++ (wide_numbers a.made ++ wide_numbers a.opened)))) (bindings_numbers b.own ++ (groups_numbers b.groups ++ ((option_numbers fault_numbers) b.pending ++ (wide_numbers b.made ++ wide_numbers b.opened)))) r s p2.1 in
      let p4 = peel bindings_numbers bindings_code a.own b.own (groups_numbers a.groups ++ ((option_numbers fault_numbers) a.pending ++ (wide_numbers a.made ++ wide_numbers a.opened))) (groups_numbers b.groups ++ ((option_numbers fault_numbers) b.pending ++ (wide_numbers b.made ++ wide_numbers b.opened))) r s p3.1 in
      let p5 = peel groups_numbers groups_code a.groups b.groups ((option_numbers fault_numbers) a.pending ++ (wide_numbers a.made ++ wide_numbers a.opened)) ((option_numbers fault_numbers) b.pending ++ (wide_numbers b.made ++ wide_numbers b.opened)) r s p4.1 in
      let p6 = peel (option_numbers fault_numbers) (option_code fault_numbers fault_code) a.pending b.pending (wide_numbers a.made ++ wide_numbers a.opened) (wide_numbers b.made ++ wide_numbers b.opened) r s p5.1 in
      let p7 = peel wide_numbers wide_code a.made b.made (wide_numbers a.opened) (wide_numbers b.opened) r s p6.1 in
      let p8 = wide_code.read a.opened b.opened r s p7.1 in
      let all : frame_by a.method a.instruction a.variables a.handles a.own a.groups a.pending a.made a.opened ≡ frame_by b.method b.instruction b.variables b.handles b.own b.groups b.pending b.made b.opened =
      ap (λ (x : ℕ). frame_by x a.instruction a.variables a.handles a.own a.groups a.pending a.made a.opened) p0.0
      ∙ ap (λ (x : ℕ). frame_by b.method x a.variables a.handles a.own a.groups a.pending a.made a.opened) p1.0
      ∙ ap (λ (x : List ℤ). frame_by b.method b.instruction x a.handles a.own a.groups a.pending a.made a.opened) p2.0
      ∙ ap (λ (x : List ℕ). frame_by b.method b.instruction b.variables x a.own a.groups a.pending a.made a.opened) p3.0
      ∙ ap (λ (x : List (ℕ × ℤ)). frame_by b.method b.instruction b.variables b.handles x a.groups a.pending a.made a.opened) p4.0
      ∙ ap (λ (x : List ℕ). frame_by b.method b.instruction b.variables b.handles b.own x a.pending a.made a.opened) p5.0
      ∙ ap (λ (x : Option Fault). frame_by b.method b.instruction b.variables b.handles b.own b.groups x a.made a.opened) p6.0
      ∙ ap (λ (x : ℕ). frame_by b.method b.instruction b.variables b.handles b.own b.groups b.pending x a.opened) p7.0
      ∙ ap (λ (x : ℕ). frame_by b.method b.instruction b.variables b.handles b.own b.groups b.pending b.made x) p8.0 in
      (all, p8.1);
}

pub rows_code : IsCode rows_numbers
rows_code = list_code values_numbers values_code

pub fields_code : IsCode fields_numbers
fields_code = list_code rows_numbers rows_code

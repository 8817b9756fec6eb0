use Rattle.std.proofs.Common.{◌≡◌, ℕ, ◌<◌, ◌≤◌, length, get_or, string_bytes, sym, ◌∙◌, subst, arith}
use Rattle.text.proofs.Appends.{appended_begins, boundary_behind}
use Rattle.text.proofs.print.print_line.Goals as goal

pub truncate-requires : goal.truncate-requires
truncate-requires g c =
    let long : c.len-length.result ≡ length (string_bytes c.args.out.now) = c.len-length.ensures ∙ c.args.out.now.bytes.ok.0 in
    let begins = appended_begins c.push_line-printed.result _ _ _ c.push_line-printed.ensures in
    let after = string_bytes c.push_line-printed.new.out in
    λ within. (
      omega (arith, c.push_line-printed.new.out.bytes.ok.0),
      λ some short high. subst (λ (n : ℕ). 192 ≤ get_or after n 0) (sym long)
          (boundary_behind _ begins.0 after c.args.out.now.ok c.push_line-printed.new.out.ok begins.1 (subst (λ (n : ℕ). n < length after) long short) (subst (λ (n : ℕ). 128 ≤ get_or after n 0) long high)),
    )

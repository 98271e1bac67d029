-- Defines the values from which `mint` makes a pass.
use Rattle.std.specs.Prelude.{ℕ, List}
use Rattle.pass_forms.specs.declared.form.Form.{Form}

pub record Minting : Type 0 where
  pub root : List ℕ
  pub identifier : List ℕ
  pub location : List ℕ
  pub form : Form
  pub caveats : List (List ℕ)

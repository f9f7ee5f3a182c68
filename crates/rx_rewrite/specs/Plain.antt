-- What is done about a term whose meaning depends on a setting.
use Rattle.rx_ast.specs.Tree.{Node}
use Rattle.rx_rewrite.specs.declared.settings.Replacement.{Replacement}
use Rattle.rx_rewrite.specs.declared.settings.Replacement.TheVariants.{Keep, On, Off}

-- what a term becomes: it stays the same, or becomes `on`, what it means where the setting is on, or `off`, what it means where the setting is off
abbrev pub chosen_term : Replacement → Node → Node → Node → Node
chosen_term Keep same on off = same
chosen_term On same on off = on
chosen_term Off same on off = off

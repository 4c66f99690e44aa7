pub mod FindingsNamed

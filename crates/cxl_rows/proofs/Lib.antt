mod OkValues
